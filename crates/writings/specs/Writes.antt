-- WHAT A READER MUST BELIEVE. What the writers reply, and what the lent tables and the lent output then hold. Assumes nothing.
use Rattle.writings.specs.Types.{WriteMdfReply, WriteReply}
use Rattle.std.specs.Prelude.{◌≡◌, Ok, Err}
use Rattle.terms.specs.Words.{ℕ, length, Bytes}
use Rattle.line.specs.Line.{Field}
use Rattle.law.specs.Network.{Network, Rules}
use Rattle.law.specs.Tables.{Lent, MissionLent, filled, mission_filled, zeros, mission_zeros}
use Rattle.map_law.specs.Map.{geojson}
use Rattle.packed_law.specs.Packed.{packed_form}
use Rattle.house_text.specs.House.{HouseRndf, HouseMdf}
use Rattle.output.specs.Output.{zero_bytes, Fits, padded}
use Rattle.refusal.specs.declared.Refusal.{Refusal}
use Rattle.replies.specs.Replies.{File, an_rndf, an_mdf, Accepts, refusal, rows_used_of, network_file, mission_file_of, ReadsRndf, ReadsPair}

-- the text is accepted, and this is its network or mission; and a writing of it. Yard A's line `exit>1.1.2>1.1.1` is a line of its house writing too: document 01 has yard A in the house writing
pub record AcceptedText (rules : Rules) {Meaning : Type 0} (file : File Meaning) (Writing : Meaning → Bytes → Type 0) (text : Bytes) : Type 0 where
  pub meant : Meaning
  pub accepted : Accepts rules file text meant
  pub writing : Bytes
  pub wrote : Writing meant writing

-- ## Any writing of an accepted network: the reply, and what is left in the lent tables and the lent output. t: these tables as they were lent; lent: the length of that output
pub data Writes (rules : Rules) (Writing : Network Field → Bytes → Type 0) (text : Bytes) (t : Lent) (lent : ℕ) (reply : WriteReply) (left : Lent) (out : Bytes) : Type 0 where
  -- 01: "reads them first and refuses as the reader does before any refusal of its own"
  refused : (why : Refusal) → ReadsRndf rules text t (Err why) left → reply ≡ Err why → out ≡ zero_bytes lent → Writes rules Writing text t lent reply left out
  -- 01: 19 "house writing over 16,777,215 bytes or longer than the lent output"; "All lent tables, and the writer's lent output, are then zero over their whole length". L2: "19, with its zeros, where this or a later request's output is over 16,777,215 bytes or longer than the lent one"
  too_long : (yard : AcceptedText rules (an_rndf t) Writing text) → (Fits lent yard.writing → ⊥) → reply ≡ Err (refusal 1 0 19 0) → left ≡ zeros t → out ≡ zero_bytes lent → Writes rules Writing text t lent reply left out
  -- the tables hold what the reader leaves. 01: "A lent output is zero behind what was written."
  written : (yard : AcceptedText rules (an_rndf t) Writing text) → Fits lent yard.writing → reply ≡ Ok (rows_used_of yard.meant, network_file yard.meant, length yard.writing)
      → left ≡ filled yard.meant t → out ≡ padded lent yard.writing → Writes rules Writing text t lent reply left out

-- the house writing of an RNDF
abbrev pub WritesRndf : Rules → (text : Bytes) → Lent → (lent : ℕ) → WriteReply → (left : Lent) → (out : Bytes) → Type 0
WritesRndf rules = Writes rules HouseRndf

-- L2: "Write an accepted network as one FeatureCollection"
abbrev pub MapOf : Network Field → Bytes → Type 0
MapOf n writing = writing ≡ geojson n

abbrev pub WritesMap : Rules → (text : Bytes) → Lent → (lent : ℕ) → WriteReply → (left : Lent) → (out : Bytes) → Type 0
WritesMap rules = Writes rules MapOf

-- L11: "Pack an accepted network"
abbrev pub PackedOf : Network Field → Bytes → Type 0
PackedOf n writing = writing ≡ packed_form n

abbrev pub WritesPacked : Rules → (text : Bytes) → Lent → (lent : ℕ) → WriteReply → (left : Lent) → (out : Bytes) → Type 0
WritesPacked rules = Writes rules PackedOf

-- ## The MDF of a pair, which stands behind an accepted RNDF. u: the goals and limits as they were lent
pub data WritesMdf (rules : Rules) (rndf mdf : Bytes) (t : Lent) (u : MissionLent) (lent : ℕ) (reply : WriteMdfReply) (left : Lent) (mission_left : MissionLent) (out : Bytes) : Type 0 where
  refused : (why : Refusal) → ReadsPair rules rndf mdf t u (Err why) left mission_left → reply ≡ Err why → out ≡ zero_bytes lent → WritesMdf rules rndf mdf t u lent reply left mission_left out
  -- 01: "19 gives the file written"
  too_long : (n : Network Field) → Accepts rules (an_rndf t) rndf n → (order : AcceptedText rules (an_mdf n u) HouseMdf mdf) → (Fits lent order.writing → ⊥)
      → reply ≡ Err (refusal 2 0 19 0) → left ≡ zeros t → mission_left ≡ mission_zeros u → out ≡ zero_bytes lent → WritesMdf rules rndf mdf t u lent reply left mission_left out
  written : (n : Network Field) → Accepts rules (an_rndf t) rndf n → (order : AcceptedText rules (an_mdf n u) HouseMdf mdf) → Fits lent order.writing
      → reply ≡ Ok (rows_used_of n, network_file n, record { goals = length order.meant.goals; limits = length order.meant.limits }, mission_file_of order.meant, length order.writing)
      → left ≡ filled n t → mission_left ≡ mission_filled order.meant u → out ≡ padded lent order.writing → WritesMdf rules rndf mdf t u lent reply left mission_left out
