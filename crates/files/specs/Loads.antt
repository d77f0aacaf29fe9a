-- What can be said of a loaded file. Which bytes the system hands over, and why it hands over none, no contract knows. Assumes nothing.
use Rattle.std.specs.Prelude.{◌≡◌, true, false, ℕ, ◌≤◌, length, take}
use Rattle.terms.specs.Ascii.{Bytes}
use Rattle.shown.specs.Shown.{mission_first}
use Rattle.files.specs.declared.Loaded.{Loaded}
use Rattle.files.specs.declared.Loaded.TheVariants as L

-- why a file could not be opened or read
abbrev pub Unread : Loaded → Type 0
Unread (L.Bytes n) = ⊥
Unread L.NotAsked = ⊥
Unread L.OverLimit = ⊥
Unread L.TooBig = ⊥
Unread L.Missing = Unit {0}
Unread L.Folder = Unit {0}
Unread L.Unreadable = Unit {0}
Unread L.Mission = ⊥

-- a byte is left over behind a full text
abbrev pub TooMuch : Loaded → Type 0
TooMuch (L.Bytes n) = ⊥
TooMuch L.NotAsked = ⊥
TooMuch L.OverLimit = Unit {0}
TooMuch L.TooBig = Unit {0}
TooMuch L.Missing = ⊥
TooMuch L.Folder = ⊥
TooMuch L.Unreadable = ⊥
TooMuch L.Mission = ⊥

-- no more than so many bytes
abbrev pub LoadsUpTo : ℕ → Loaded → Type 0
LoadsUpTo most (L.Bytes n) = n ≤ most
LoadsUpTo most L.NotAsked = ⊥
LoadsUpTo most L.OverLimit = Unit {0}
LoadsUpTo most L.TooBig = Unit {0}
LoadsUpTo most L.Missing = Unit {0}
LoadsUpTo most L.Folder = Unit {0}
LoadsUpTo most L.Unreadable = Unit {0}
LoadsUpTo most L.Mission = ⊥

-- `text`: the lent one, as it is left. The file's bytes stand at its front
abbrev pub Loads : (text : Bytes) → Loaded → Type 0
Loads text (L.Bytes n) = n ≤ length text
Loads text L.NotAsked = ⊥
Loads text L.OverLimit = Unit {0}
Loads text L.TooBig = Unit {0}
Loads text L.Missing = Unit {0}
Loads text L.Folder = Unit {0}
Loads text L.Unreadable = Unit {0}
Loads text L.Mission = ⊥

-- bytes that begin as an MDF does stand at its front
pub record MissionThere (text : Bytes) : Type 0 where
  pub bytes : ℕ
  pub inside : bytes ≤ length text
  pub mission : mission_first (take bytes text) ≡ true

-- of a file that is to be an RNDF
abbrev pub LoadsRndf : (text : Bytes) → Loaded → Type 0
LoadsRndf text (L.Bytes n) = (n ≤ length text) × (mission_first (take n text) ≡ false)
LoadsRndf text L.NotAsked = ⊥
LoadsRndf text L.OverLimit = Unit {0}
LoadsRndf text L.TooBig = Unit {0}
LoadsRndf text L.Missing = Unit {0}
LoadsRndf text L.Folder = Unit {0}
LoadsRndf text L.Unreadable = Unit {0}
LoadsRndf text L.Mission = MissionThere text
