-- A step as code has it.
-- Assumes nothing.
use Rattle.rules.specs.Migration.{Move}
use Rattle.movelog.specs.declared.Step.{Step}

abbrev pub move_by : Step → Move
move_by s = record { task = s.task; origin = s.origin; target = s.target; displaced = s.displaced }
