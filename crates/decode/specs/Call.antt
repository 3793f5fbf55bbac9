-- What decode is given and what it gives back, each as one thing: what the demands speak of. Everything here computes.
--   Call             what decode is given; `before` is the lent buffer
--   Result           what it gives back
--   refusing N       the answer that refuses with the number N
--   checks_of c       the number of the first of checks 1 to 5 that is met, 0 for none
--   refused_with N c  the result that refuses with N
-- Assumes nothing.
use Rattle.std.specs.Prelude.{List, ℕ, ℤ, length}
use Rattle.frame.specs.Refusal.{decode_refusal}
use Rattle.decode.specs.declared.Decoding.{Decoding}

pub record Call : Type 0 where
  pub m : ℕ
  pub t : ℕ
  pub s : ℕ
  pub order : ℕ
  pub soft : List ℤ
  pub before : List ℕ

pub record Result : Type 0 where
  pub answer : Decoding
  pub after : List ℕ

abbrev pub checks_of : Call → ℕ
checks_of c = decode_refusal c.m c.t c.s c.order (length c.soft) (length c.before)

-- "A refusal returns its number with all other fields zero, and no byte of the buffer changes."
abbrev pub refusing : ℕ → Decoding
refusing N = record { refusal = N; distance = 0; flips = 0; candidates = 0 }

abbrev pub refused_with : ℕ → Call → Result
refused_with N c = record { answer = refusing N; after = c.before }
