-- Executable: a fault made of its line and number. Assumes nothing.
use Rattle.std.specs.Prelude.{ℕ}
use Rattle.refusal.specs.declared.Fault.{Fault}

abbrev pub fault : (line number : ℕ) → Fault
fault line number = record { line = line; number = number }
