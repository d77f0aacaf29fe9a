-- WHAT A READER MUST BELIEVE. What a planner is told of a file that can't be taken; nothing where its bytes are there or it is not asked for. Assumes nothing.
use Rattle.std.specs.Prelude.{[], ◌++◌}
use Rattle.terms.specs.Ascii.{Bytes, ascii}
use Rattle.files.specs.declared.Loaded.{Loaded}
use Rattle.files.specs.declared.Loaded.TheVariants as L

-- `too-big` are the words of the program: how much it takes. (Of an RNDF over the readers' limit the programs tell 1 and not this)
unfoldable pub trouble : (name too-big : Bytes) → Loaded → Bytes
trouble name too-big (L.Bytes n) = []
trouble name too-big L.NotAsked = []
trouble name too-big L.OverLimit = name ++ too-big
trouble name too-big L.TooBig = name ++ too-big
trouble name too-big L.Missing = name ++ ascii ": there is no such file\n"
trouble name too-big L.Folder = name ++ ascii ": this is a folder, not a file\n"
trouble name too-big L.Unreadable = name ++ ascii ": the file can't be read\n"
trouble name too-big L.Mission = name ++ ascii ": this is an MDF; name the RNDF first, and the MDF behind it\n"
