-- `gf::Field::inverse` meets its contract: each table passes the one test, which is computed over all of it. `search` reads the table
-- off the goal, so that the test is of the code's own numbers. Assumes nothing.
use mathlib.Core.Path.{◌≡◌}
use native.Mathlib.Omega.{arith}
use borrow.Author.Rules.{rules}
use Rattle.field.specs.Field.{◌⊕◌, bit_times, modulus, reduction, times_alpha, shift_add, times}
use Rattle.gf.proofs.TableLaws.{table_inverse}
use Rattle.gf.proofs.Field.inverse.Goals as goal

pub returns-in-4 : goal.returns-in-4
unfolding ◌⊕◌ bit_times modulus reduction times_alpha shift_add times
returns-in-4 c = search (rules, table_inverse 4)

pub returns-in-5 : goal.returns-in-5
unfolding ◌⊕◌ bit_times modulus reduction times_alpha shift_add times
returns-in-5 c = search (rules, table_inverse 5)

pub returns-in_default : goal.returns-in_default
unfolding ◌⊕◌ bit_times modulus reduction times_alpha shift_add times
returns-in_default c = let e : c.args.self.m ≡ 6 = omega arith in search (rules, e, table_inverse 6)
