-- What encode and read give back, each as one thing: what the demands speak of. Everything here computes.
--   Encoding      what encode gives back: a refusal's number or 0, and the buffer after
--   says N M      read's answer with the number N and the message M, and no place; it writes nothing
--   fault_at N p   read's refusal N of a word, with the place p of the fault; all other fields are zero
-- Assumes nothing.
use Rattle.std.specs.Prelude.{List, ℕ}
use Rattle.codec.specs.declared.Reading.{Reading}

pub record Encoding : Type 0 where
  pub answer : ℕ
  pub after : List ℕ

abbrev pub says : ℕ → ℕ → Reading
says N M = record { refusal = N; message = M; at = 0 }

abbrev pub fault_at : ℕ → ℕ → Reading
fault_at N p = record { refusal = N; message = 0; at = p }
