-- `exponents::zech` meets its contract: each table passes the one test, which is computed over all of it. `search` reads the tables
-- off the goal, so that the test is of the code's own numbers. Assumes nothing.
use borrow.Author.Rules.{rules}
use Rattle.field.specs.Field.{◌⊕◌, bit_times, modulus, reduction, times_alpha, alpha_to, length_of}
use Rattle.exponents.proofs.ExponentTableLaws.{three_zech}
use Rattle.exponents.proofs.zech.Goals as goal

pub returns : goal.returns
unfolding ◌⊕◌ bit_times modulus reduction times_alpha alpha_to length_of
returns c = search (rules, three_zech)
