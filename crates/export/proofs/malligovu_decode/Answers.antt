-- `export::malligovu_decode` meets its contract. Assumes nothing.
use Rattle.export.proofs.NarrowLaws.{decode_narrow}
use Rattle.export.proofs.malligovu_decode.Goals as goal

pub returns : goal.returns
returns c =
    let a = c.args in
    let on-m = c.narrow.ensures in
    let on-t = c.narrow-2.ensures in
    let on-s = c.narrow-3.ensures in
    record {
      answer = c.decode-decoding.result;
      answers = decode_narrow on-m on-t on-s c.narrow-4.ensures a.soft.now a.word.now c.decode-decoding.ensures;
      refusal = c.from.ensures;
      tells = rw (c.from.ensures, ← c.from-distance.ensures, ← c.from-flips.ensures) c.tell.ensures;
    }
