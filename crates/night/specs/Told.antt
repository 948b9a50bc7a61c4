-- What the code's report tells of a replay. On a refusal all that is reported is 0, and the replay is stopped.
-- Assumes nothing.
use Rattle.std.specs.Prelude.{Result, Ok, Err, List, ℕ}
use Rattle.levels.specs.declared.record.Record.{Record}
use Rattle.rules.specs.Tables.{Tables}
use Rattle.rules.specs.Answers.{number_of}
use Rattle.rules.specs.declared.answer.Refusal.{Refusal}
use Rattle.recording.specs.declared.Ending.TheVariants.{Stopped}
use Rattle.recording.specs.Replay.{Replayed, replay, with_slice}
use Rattle.night.specs.declared.Report.{Report}

-- with the times, the record and the tables
abbrev pub told : Report → List ℕ → Record → Tables → Replayed
told p ts r s = replay 0 p.ending p.place p.n ts p.moves p.refused r (with_slice p.full s)

abbrev pub told_of : Result Report Refusal → List ℕ → Record → Tables → Replayed
told_of (Ok p) ts r s = told p ts r s
told_of (Err e) ts r s = replay (number_of e) Stopped 0 0 ts 0 0 r (with_slice 0 s)
