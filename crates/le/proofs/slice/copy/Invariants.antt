-- `le::slice::copy` meets its contract. The loop's invariant: the first `i` bytes are the source's, and the rest is as it came.
-- Assumes nothing.
use Rattle.std.proofs.Common.{◌≡◌, length, take, drop, ◌++◌, ◌≤◌}
use Rattle.le.proofs.slice.copy.Given as goal

abbrev pub invariant-loop-i : goal.invariant-loop-i
invariant-loop-i l = (length l.dst ≡ length l.initial.dst) × (l.i ≤ l.n) × (l.dst ≡ take l.i l.src ++ drop l.i l.initial.dst)
