-- `exponents::powers` meets its contract: each table passes the one test, which is computed over all of it. `search` reads the tables
-- off the goal, so that the test is of the code's own numbers. Assumes nothing.
use borrow.Author.Rules.{rules}
use Rattle.field.specs.Field.{◌⊕◌, bit_times, modulus, reduction, times_alpha}
use Rattle.exponents.proofs.ExponentTableLaws.{three_powers}
use Rattle.exponents.proofs.powers.Goals as goal

pub returns : goal.returns
unfolding ◌⊕◌ bit_times modulus reduction times_alpha
returns c = search (rules, three_powers)
