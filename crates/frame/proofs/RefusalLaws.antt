-- What a call has passed when its checks give 0.
--   EncodePassed, ReadPassed, DecodePassed   what the passed checks of each call leave
--   encode_known, encode_passed, ..          that they leave it
-- Assumes nothing.
use mathlib.Core.Path.{◌≡◌}
use mathlib.Core.Bool.{Bool, true, false, not, cond, ◌&&◌}
use Prim.Native.Nat.{ℕ, suc, ◌-◌, ◌^◌, ◌<◌, ◌≤◌}
use native.Mathlib.Omega.{arith}
use lib.Dec.{T, leb, leb→le, eqb, eqb→eq, nleb→lt, nltb→le}
use Rattle.field.specs.Field.{length_of}
use Rattle.field.proofs.TestLaws.{and_left, and_right}
use Rattle.codes.specs.Code.{Known, dimension_of}
use Rattle.words.specs.Packing.{bytes_of}
use Rattle.frame.specs.Refusal.{unknown_code, too_short, high_order, wrong_count, small_buffer, large_message}
use Rattle.frame.specs.Refusal.{encode_refusal, read_refusal, decode_refusal}

-- a check that is not met leaves it to the next
pub not_met : (b : Bool) (N x : ℕ) → cond b (suc N) x ≡ 0 → T (not b) × (x ≡ 0)
not_met true N x e = absurd (omega arith)
not_met false N x e = (tt, e)

not_not : (b : Bool) → T (not (not b)) → T b
not_not true h = h
not_not false h = h

pub known_by : (m t x : ℕ) → cond (unknown_code m t).0 1 x ≡ 0 → Known m t
known_by m t x e =
    let h = not_not (leb 4 m && leb m 6 && (leb 1 t && leb t 3)) (not_met (unknown_code m t).0 0 x e).0 in
    let a = and_left (leb 4 m && leb m 6) (leb 1 t && leb t 3) h in
    let c = and_right (leb 4 m && leb m 6) (leb 1 t && leb t 3) h in
    record {
      m_low = leb→le 4 m (and_left (leb 4 m) (leb m 6) a);
      m_high = leb→le m 6 (and_right (leb 4 m) (leb m 6) a);
      t_low = leb→le 1 t (and_left (leb 1 t) (leb t 3) c);
      t_high = leb→le t 3 (and_right (leb 1 t) (leb t 3) c);
    }

pub record EncodePassed (m t s message size : ℕ) : Type 0 where
  pub known : Known m t
  pub short : s < dimension_of m t
  pub small : message < 2 ^ (dimension_of m t - s)
  pub room : bytes_of m ≤ size

pub record ReadPassed (m t s size : ℕ) : Type 0 where
  pub known : Known m t
  pub short : s < dimension_of m t
  pub room : bytes_of m ≤ size

pub record DecodePassed (m t s order values size : ℕ) : Type 0 where
  pub known : Known m t
  pub short : s < dimension_of m t
  pub low : order ≤ 3
  pub count : values ≡ length_of m - s
  pub room : bytes_of m ≤ size

module _ (m t s : ℕ) where
  short_by : (x : ℕ) → cond (too_short m t s).0 2 x ≡ 0 → s < dimension_of m t
  short_by x e = nleb→lt (dimension_of m t) s (not_met (too_short m t s).0 1 x e).0

  room_by : (room x : ℕ) → cond (small_buffer m room).0 5 x ≡ 0 → bytes_of m ≤ room
  room_by room x e = nltb→le room (bytes_of m) (not_met (small_buffer m room).0 4 x e).0

  -- what the rows after the first two ask, where those are passed
  later : (x : ℕ) → cond (unknown_code m t).0 1 (cond (too_short m t s).0 2 x) ≡ 0 → x ≡ 0
  later x e = (not_met (too_short m t s).0 1 x (not_met (unknown_code m t).0 0 _ e).1).1

  pub encode_known : (message room : ℕ) → encode_refusal m t s message room ≡ 0 → Known m t
  unfolding encode_refusal
  encode_known message room e = known_by m t _ e

  pub encode_passed : (message room : ℕ) → encode_refusal m t s message room ≡ 0 → EncodePassed m t s message room
  unfolding encode_refusal
  encode_passed message room e =
      let a = not_met (large_message m t s message).0 6 _ (later _ e) in
      record {
        known = known_by m t _ e;
        short = short_by _ (not_met (unknown_code m t).0 0 _ e).1;
        small = nleb→lt (2 ^ (dimension_of m t - s)) message a.0;
        room = room_by room 0 a.1;
      }

  pub read_passed : (room : ℕ) → read_refusal m t s room ≡ 0 → ReadPassed m t s room
  unfolding read_refusal
  read_passed room e =
      record {
        known = known_by m t _ e;
        short = short_by _ (not_met (unknown_code m t).0 0 _ e).1;
        room = room_by room 0 (later _ e);
      }

  pub decode_passed : (order values room : ℕ) → decode_refusal m t s order values room ≡ 0 → DecodePassed m t s order values room
  unfolding decode_refusal
  decode_passed order values room e =
      let a = not_met (high_order order).0 2 _ (later _ e) in
      let c = not_met (wrong_count m s values).0 3 _ a.1 in
      record {
        known = known_by m t _ e;
        short = short_by _ (not_met (unknown_code m t).0 0 _ e).1;
        low = nltb→le 3 order a.0;
        count = eqb→eq values (length_of m - s) (not_not (eqb values (length_of m - s)) c.0);
        room = room_by room 0 c.1;
      }
