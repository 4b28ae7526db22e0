-- The end of a line, as the code answers it.
-- Assumes nothing.
use Rattle.std.specs.Prelude.{ℕ, Result, Ok, Err}
use Rattle.machine.specs.Line as line
use Rattle.table.specs.declared.line.Broken.{Broken}
use Rattle.table.specs.declared.line.Broken.TheVariants.{Dead, Ill}

abbrev pub line_as : Result ℕ Broken → line.Line
line_as (Ok k) = line.owner k
line_as (Err (Dead k)) = line.dead k
line_as (Err (Ill k)) = line.ill k
