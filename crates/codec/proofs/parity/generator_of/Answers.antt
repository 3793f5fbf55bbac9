-- `codec::parity::generator_of` meets its contract: its table is the definition's. Assumes nothing.
use Rattle.std.proofs.Common.{rules}
use Rattle.codes.specs.Code.{entry_of, generator_of}
use Rattle.codec.proofs.parity.generator_of.Goals as goal

pub returns : goal.returns
unfolding generator_of entry_of
returns c = search rules
