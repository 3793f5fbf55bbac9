-- `cases::scan::row` meets its contract: what is left is a rest of the line, no longer than it. Assumes nothing.
use Rattle.std.proofs.Common.{◌≡◌, ◌≤◌, ◌++◌, ℕ, List, length}
use Rattle.cases.proofs.scan.row.Given as goal

abbrev pub invariant-loop : goal.invariant-loop
invariant-loop l = (length l.rest ≤ length l.fn.line) × ((before : List ℕ) × (l.fn.line ≡ before ++ l.rest))
