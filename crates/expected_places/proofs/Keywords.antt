-- The keyword of each kind, as the program's items have it. Assumes nothing.
use mathlib.Core.Path.{◌≡◌}
use Rattle.terms.specs.Ascii.{ascii}
use Rattle.word.specs.Keywords.{rndf_keywords, mdf_keywords}
use Rattle.expected_words.specs.Items.{rndf_word, mdf_word}
use Rattle.expected_words.proofs.Laws.{rndf-word-by-kind, mdf-word-by-kind}

-- ## RNDF
pub word_0 : rndf_word 0 ≡ ascii "RNDF_name"
unfolding rndf_keywords
word_0 = rndf-word-by-kind 0

pub word_1 : rndf_word 1 ≡ ascii "num_segments"
unfolding rndf_keywords
word_1 = rndf-word-by-kind 1

pub word_2 : rndf_word 2 ≡ ascii "num_zones"
unfolding rndf_keywords
word_2 = rndf-word-by-kind 2

pub word_3 : rndf_word 3 ≡ ascii "format_version"
unfolding rndf_keywords
word_3 = rndf-word-by-kind 3

pub word_4 : rndf_word 4 ≡ ascii "creation_date"
unfolding rndf_keywords
word_4 = rndf-word-by-kind 4

pub word_5 : rndf_word 5 ≡ ascii "segment"
unfolding rndf_keywords
word_5 = rndf-word-by-kind 5

pub word_6 : rndf_word 6 ≡ ascii "num_lanes"
unfolding rndf_keywords
word_6 = rndf-word-by-kind 6

pub word_7 : rndf_word 7 ≡ ascii "segment_name"
unfolding rndf_keywords
word_7 = rndf-word-by-kind 7

pub word_8 : rndf_word 8 ≡ ascii "end_segment"
unfolding rndf_keywords
word_8 = rndf-word-by-kind 8

pub word_9 : rndf_word 9 ≡ ascii "lane"
unfolding rndf_keywords
word_9 = rndf-word-by-kind 9

pub word_10 : rndf_word 10 ≡ ascii "num_waypoints"
unfolding rndf_keywords
word_10 = rndf-word-by-kind 10

pub word_11 : rndf_word 11 ≡ ascii "lane_width"
unfolding rndf_keywords
word_11 = rndf-word-by-kind 11

pub word_12 : rndf_word 12 ≡ ascii "left_boundary"
unfolding rndf_keywords
word_12 = rndf-word-by-kind 12

pub word_13 : rndf_word 13 ≡ ascii "right_boundary"
unfolding rndf_keywords
word_13 = rndf-word-by-kind 13

pub word_14 : rndf_word 14 ≡ ascii "checkpoint"
unfolding rndf_keywords
word_14 = rndf-word-by-kind 14

pub word_15 : rndf_word 15 ≡ ascii "stop"
unfolding rndf_keywords
word_15 = rndf-word-by-kind 15

pub word_16 : rndf_word 16 ≡ ascii "exit"
unfolding rndf_keywords
word_16 = rndf-word-by-kind 16

pub word_17 : rndf_word 17 ≡ ascii "end_lane"
unfolding rndf_keywords
word_17 = rndf-word-by-kind 17

pub word_18 : rndf_word 18 ≡ ascii "zone"
unfolding rndf_keywords
word_18 = rndf-word-by-kind 18

pub word_19 : rndf_word 19 ≡ ascii "num_spots"
unfolding rndf_keywords
word_19 = rndf-word-by-kind 19

pub word_20 : rndf_word 20 ≡ ascii "zone_name"
unfolding rndf_keywords
word_20 = rndf-word-by-kind 20

pub word_21 : rndf_word 21 ≡ ascii "end_zone"
unfolding rndf_keywords
word_21 = rndf-word-by-kind 21

pub word_22 : rndf_word 22 ≡ ascii "perimeter"
unfolding rndf_keywords
word_22 = rndf-word-by-kind 22

pub word_23 : rndf_word 23 ≡ ascii "num_perimeterpoints"
unfolding rndf_keywords
word_23 = rndf-word-by-kind 23

pub word_24 : rndf_word 24 ≡ ascii "end_perimeter"
unfolding rndf_keywords
word_24 = rndf-word-by-kind 24

pub word_25 : rndf_word 25 ≡ ascii "spot"
unfolding rndf_keywords
word_25 = rndf-word-by-kind 25

pub word_26 : rndf_word 26 ≡ ascii "spot_width"
unfolding rndf_keywords
word_26 = rndf-word-by-kind 26

pub word_27 : rndf_word 27 ≡ ascii "end_spot"
unfolding rndf_keywords
word_27 = rndf-word-by-kind 27

pub word_28 : rndf_word 28 ≡ ascii "end_file"
unfolding rndf_keywords
word_28 = rndf-word-by-kind 28

-- ## MDF
pub order_0 : mdf_word 0 ≡ ascii "MDF_name"
unfolding mdf_keywords
order_0 = mdf-word-by-kind 0

pub order_1 : mdf_word 1 ≡ ascii "RNDF"
unfolding mdf_keywords
order_1 = mdf-word-by-kind 1

pub order_2 : mdf_word 2 ≡ ascii "format_version"
unfolding mdf_keywords
order_2 = mdf-word-by-kind 2

pub order_3 : mdf_word 3 ≡ ascii "creation_date"
unfolding mdf_keywords
order_3 = mdf-word-by-kind 3

pub order_4 : mdf_word 4 ≡ ascii "checkpoints"
unfolding mdf_keywords
order_4 = mdf-word-by-kind 4

pub order_5 : mdf_word 5 ≡ ascii "num_checkpoints"
unfolding mdf_keywords
order_5 = mdf-word-by-kind 5

pub order_6 : mdf_word 6 ≡ ascii "end_checkpoints"
unfolding mdf_keywords
order_6 = mdf-word-by-kind 6

pub order_7 : mdf_word 7 ≡ ascii "speed_limits"
unfolding mdf_keywords
order_7 = mdf-word-by-kind 7

pub order_8 : mdf_word 8 ≡ ascii "num_speed_limits"
unfolding mdf_keywords
order_8 = mdf-word-by-kind 8

pub order_9 : mdf_word 9 ≡ ascii "end_speed_limits"
unfolding mdf_keywords
order_9 = mdf-word-by-kind 9

pub order_10 : mdf_word 10 ≡ ascii "end_file"
unfolding mdf_keywords
order_10 = mdf-word-by-kind 10
