-- The loop of `playing::accrue`: the CPUs so far have gained their share.
-- Assumes nothing.
use Rattle.std.proofs.Common.{◌≡◌, take}
use Rattle.recording.specs.Replay.{accrued}
use Rattle.playing.proofs.accrue.Given as goal

abbrev pub invariant-loop-c : goal.invariant-loop-c
invariant-loop-c l = l.times ≡ accrued l.d (take l.c l.counts) l.initial.times
