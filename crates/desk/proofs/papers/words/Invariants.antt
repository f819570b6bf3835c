-- `papers::words`: a word at a turn at most. Assumes nothing.
use Rattle.std.proofs.Common.{◌≤◌, vec_len}
use Rattle.desk.proofs.papers.words.Given as goal

abbrev pub invariant-loop-i : goal.invariant-loop-i
invariant-loop-i g l = vec_len l.words ≤ l.i
