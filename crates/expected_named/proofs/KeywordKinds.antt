-- The kind of each keyword of an RNDF, and which kinds of lines name nothing. Assumes nothing.
use mathlib.Core.Path.{◌≡◌, refl}
use mathlib.Core.Bool.{Bool, not, ◌||◌}
use Prim.Native.Nat.{ℕ}
use lib.Dec.{eqb}
use Rattle.terms.specs.Ascii.{ascii}
use Rattle.scan.specs.Reach.{begins, same_bytes_of}
use Rattle.word.specs.Keywords.{rndf_keywords}
use Rattle.word.specs.Number.{index_of}
use Rattle.judge.specs.RndfLine.{rndf_kind}

-- no segment, checkpoint, end of a lane, zone, end of a perimeter, point
abbrev pub quiet : ℕ → Bool
quiet k = not (eqb k 5 || (eqb k 14 || (eqb k 17 || (eqb k 18 || (eqb k 24 || eqb k 29)))))

pub kind-rndf-name : rndf_kind (ascii "RNDF_name") ≡ 0
unfolding rndf_kind begins index_of rndf_keywords same_bytes_of ascii
kind-rndf-name = refl

pub kind_num-segments : rndf_kind (ascii "num_segments") ≡ 1
unfolding rndf_kind begins index_of rndf_keywords same_bytes_of ascii
kind_num-segments = refl

pub kind_num-zones : rndf_kind (ascii "num_zones") ≡ 2
unfolding rndf_kind begins index_of rndf_keywords same_bytes_of ascii
kind_num-zones = refl

pub kind_format-version : rndf_kind (ascii "format_version") ≡ 3
unfolding rndf_kind begins index_of rndf_keywords same_bytes_of ascii
kind_format-version = refl

pub kind_creation_date : rndf_kind (ascii "creation_date") ≡ 4
unfolding rndf_kind begins index_of rndf_keywords same_bytes_of ascii
kind_creation_date = refl

pub kind-segment : rndf_kind (ascii "segment") ≡ 5
unfolding rndf_kind begins index_of rndf_keywords same_bytes_of ascii
kind-segment = refl

pub kind_num-lanes : rndf_kind (ascii "num_lanes") ≡ 6
unfolding rndf_kind begins index_of rndf_keywords same_bytes_of ascii
kind_num-lanes = refl

pub kind-segment-name : rndf_kind (ascii "segment_name") ≡ 7
unfolding rndf_kind begins index_of rndf_keywords same_bytes_of ascii
kind-segment-name = refl

pub kind-end-segment : rndf_kind (ascii "end_segment") ≡ 8
unfolding rndf_kind begins index_of rndf_keywords same_bytes_of ascii
kind-end-segment = refl

pub kind-lane : rndf_kind (ascii "lane") ≡ 9
unfolding rndf_kind begins index_of rndf_keywords same_bytes_of ascii
kind-lane = refl

pub kind_num-waypoints : rndf_kind (ascii "num_waypoints") ≡ 10
unfolding rndf_kind begins index_of rndf_keywords same_bytes_of ascii
kind_num-waypoints = refl

pub kind-lane-width : rndf_kind (ascii "lane_width") ≡ 11
unfolding rndf_kind begins index_of rndf_keywords same_bytes_of ascii
kind-lane-width = refl

pub kind-left-boundary : rndf_kind (ascii "left_boundary") ≡ 12
unfolding rndf_kind begins index_of rndf_keywords same_bytes_of ascii
kind-left-boundary = refl

pub kind-right-boundary : rndf_kind (ascii "right_boundary") ≡ 13
unfolding rndf_kind begins index_of rndf_keywords same_bytes_of ascii
kind-right-boundary = refl

pub kind-checkpoint : rndf_kind (ascii "checkpoint") ≡ 14
unfolding rndf_kind begins index_of rndf_keywords same_bytes_of ascii
kind-checkpoint = refl

pub kind-stop : rndf_kind (ascii "stop") ≡ 15
unfolding rndf_kind begins index_of rndf_keywords same_bytes_of ascii
kind-stop = refl

pub kind-exit : rndf_kind (ascii "exit") ≡ 16
unfolding rndf_kind begins index_of rndf_keywords same_bytes_of ascii
kind-exit = refl

pub kind-end-lane : rndf_kind (ascii "end_lane") ≡ 17
unfolding rndf_kind begins index_of rndf_keywords same_bytes_of ascii
kind-end-lane = refl

pub kind-zone : rndf_kind (ascii "zone") ≡ 18
unfolding rndf_kind begins index_of rndf_keywords same_bytes_of ascii
kind-zone = refl

pub kind_num-spots : rndf_kind (ascii "num_spots") ≡ 19
unfolding rndf_kind begins index_of rndf_keywords same_bytes_of ascii
kind_num-spots = refl

pub kind-zone-name : rndf_kind (ascii "zone_name") ≡ 20
unfolding rndf_kind begins index_of rndf_keywords same_bytes_of ascii
kind-zone-name = refl

pub kind-end-zone : rndf_kind (ascii "end_zone") ≡ 21
unfolding rndf_kind begins index_of rndf_keywords same_bytes_of ascii
kind-end-zone = refl

pub kind-perimeter : rndf_kind (ascii "perimeter") ≡ 22
unfolding rndf_kind begins index_of rndf_keywords same_bytes_of ascii
kind-perimeter = refl

pub kind_num-perimeterpoints : rndf_kind (ascii "num_perimeterpoints") ≡ 23
unfolding rndf_kind begins index_of rndf_keywords same_bytes_of ascii
kind_num-perimeterpoints = refl

pub kind-end-perimeter : rndf_kind (ascii "end_perimeter") ≡ 24
unfolding rndf_kind begins index_of rndf_keywords same_bytes_of ascii
kind-end-perimeter = refl

pub kind-spot : rndf_kind (ascii "spot") ≡ 25
unfolding rndf_kind begins index_of rndf_keywords same_bytes_of ascii
kind-spot = refl

pub kind-spot-width : rndf_kind (ascii "spot_width") ≡ 26
unfolding rndf_kind begins index_of rndf_keywords same_bytes_of ascii
kind-spot-width = refl

pub kind-end-spot : rndf_kind (ascii "end_spot") ≡ 27
unfolding rndf_kind begins index_of rndf_keywords same_bytes_of ascii
kind-end-spot = refl

pub kind-end-file : rndf_kind (ascii "end_file") ≡ 28
unfolding rndf_kind begins index_of rndf_keywords same_bytes_of ascii
kind-end-file = refl
