-- Sentences as they come out, letter by letter. Assumes nothing.
use Rattle.std.specs.Prelude.{Err}
use mathlib.Core.Path.{◌≡◌, refl}
use mathlib.Core.List.{[], ◌∷◌}
use Rattle.terms.specs.Ascii.{ascii}
use Rattle.number.specs.Decimal.{spell, decimal}
use Rattle.number.specs.House.{house_integer}
use Rattle.scan.specs.Reach.{same_bytes_of}
use Rattle.line.specs.Lines.{lines_of, drop_cr}
use Rattle.rows.specs.Lay.{row_at}
use Rattle.replies.specs.Replies.{refusal}
use Rattle.shown.specs.Shown.{shown_byte, shown, blank, blanks, picture, line_in, byte_from_42, byte_alone, byte_words}
use Rattle.reasons.specs.Reasons.{reason, reasons, reason_of}
use Rattle.answers.specs.Answers.{place, detail, why_of, sentence, unplaced, counted, next, rndf_answer_of, goal_number_of, way_from, no_way, no_start}

a-line : sentence (ascii "n.rndf") (ascii "a\n\tb  c\r\n") 2 12 5 ≡ ascii "n.rndf:2:5: the entry is no declared lane waypoint or perimeter point (12)\n\tb  c\n\t   ^\n"
unfolding ascii sentence why_of detail place reason reasons decimal spell line_in lines_of drop_cr picture shown shown_byte blanks blank
a-line = refl

a_byte : sentence (ascii "n.rndf") (ascii "a\\b") 1 4 2 ≡ ascii "n.rndf:1:2: a byte that is not allowed: a backslash (4)\na\\b\n ^\n"
unfolding ascii sentence why_of detail place reason reasons decimal spell line_in lines_of drop_cr picture shown shown_byte blanks blank byte_words byte_alone byte_from_42 same_bytes_of
a_byte = refl

no_line : sentence (ascii "network.rndf") [] 0 1 0 ≡ ascii "network.rndf: the text is over 16,777,215 bytes (1)\n"
unfolding ascii sentence why_of detail place reason reasons decimal spell picture
no_line = refl

one_lane : counted 1 (ascii "lane") ≡ ascii "1 lane"
unfolding ascii counted house_integer decimal spell
one_lane = refl

no-lanes : next 0 (ascii "lane") ≡ ascii ", 0 lanes"
unfolding ascii next counted house_integer decimal spell
no-lanes = refl

no_room : unplaced (ascii "m.mdf") 11 ≡ ascii "m.mdf: the work space has fewer rows than points (11)\n"
unfolding ascii unplaced reason_of house_integer decimal spell
no_room = refl

no-point : no_start (ascii "n.rndf") (ascii "1.9.1") ≡ ascii "1.9.1 is no point of n.rndf (30)\n"
unfolding ascii no_start
no-point = refl

first-goal : no_way (ascii "1.1.1") (7 ∷ 9 ∷ []) 0 ≡ ascii "goal 7 can't be reached from 1.1.1 (31)\n"
unfolding ascii no_way way_from goal_number_of row_at house_integer decimal spell
first-goal = refl

later-goal : no_way (ascii "1.1.1") (7 ∷ 9 ∷ []) 1 ≡ ascii "goal 9 can't be reached from goal 7 (31)\n"
unfolding ascii no_way way_from goal_number_of row_at house_integer decimal spell
later-goal = refl

-- of packed bytes: no line is named, and no text is shown
no_network : rndf_answer_of (ascii "yard.packed") [] [] (Err (refusal 0 0 29 0)) ≡ ascii "yard.packed: the records are not the packed form of a network (29)\n"
unfolding ascii rndf_answer_of sentence why_of detail place reason reasons decimal spell picture
no_network = refl
