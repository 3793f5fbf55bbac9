-- The value of a digit, one of `0123456789abcdef`. It computes. Assumes nothing.
use Rattle.std.specs.Prelude.{◌&&◌, ℕ, ◌-◌, cond, nat_le, Option, Some, None}

abbrev pub digit_value : ℕ → Option ℕ
digit_value byte =
    cond (nat_le 48 byte && nat_le byte 57) (Some (byte - 48)) (cond (nat_le 97 byte && nat_le byte 102) (Some (byte - 87)) None)
