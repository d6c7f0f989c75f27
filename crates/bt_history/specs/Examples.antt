-- Worked examples, written anew by each run of tools/examples.py.
use Rattle.std.specs.Prelude.{Bool, ℕ, List, [], ◌∷◌, ◌++◌, true, false, replicate, reverse, take}
use Rattle.bt_meta.specs.declared.block.Block.{Block}
use Rattle.bt_meta.specs.Layout.{Layout}
use Rattle.bt_history.specs.declared.call.Reason.TheVariants.{NotJoined, AlreadyJoined, LateBits, WrongCount, NoSuchPiece, NoSuchBlock, WrongLength}
use Rattle.bt_history.specs.declared.call.Reason.TheVariants.{NotWaiting, Stale, NotAsked, WrongDepth, WrongLevel}
use Rattle.bt_history.specs.declared.call.Reply.{Reply}
use Rattle.bt_history.specs.declared.call.Reply.TheVariants.{Joined, Noted, Quiet, Cancel, Request, InFlight, Choked, PipeFull, Idle, NothingLeft}
use Rattle.bt_history.specs.declared.call.Reply.TheVariants.{Stored, Completed, Dropped, Had, Failed, Refused}
use Rattle.bt_history.specs.declared.event.Action.{Action}
use Rattle.bt_history.specs.declared.event.Action.TheVariants.{Join, Bits, Have, Choke, Unchoke, Next, Arrived, Settle, Leave, Want, Haves, Depth}
use Rattle.bt_history.specs.declared.event.Action.TheVariants.{Release, Level, Levels, InOrder, Reach, InOrderFrom, Lack, Late, Alone, Lose, Discard}
use Rattle.bt_history.specs.declared.event.Action.TheVariants.{Requested}
use Rattle.bt_history.specs.declared.event.Event.{Event}
use Rattle.bt_history.specs.declared.rules.Rules.{Rules}
use Rattle.bt_history.specs.Setting.{Setting, setting_of, usual_rules}
use Rattle.bt_history.specs.Legal.{IsLegal, IsAllowed}
use Rattle.bt_history.specs.declared.rules.TheConstants.{MOST_DEPTH, MOST_TOLD_DEPTH, MOST_WORKERS}

-- a download with the oldest entry first, and wrong entries, each behind so many of these
pub record Example : Type 0 where
  pub setting : Setting
  pub entries : List Event
  pub wrong : List (ℕ × Event)

abbrev example : Setting → List Event → List (ℕ × Event) → Example
example setting entries wrong = record { setting = setting; entries = entries; wrong = wrong }

-- none of these entries is allowed behind so many of the example's
abbrev pub AreWrong : Example → List (ℕ × Event) → Type 0
AreWrong x [] = Unit {0}
AreWrong x (w ∷ ws) = (IsAllowed x.setting (reverse (take w.0 x.entries)) w.1 → ⊥) × AreWrong x ws

-- each example is legal, and what it calls wrong isn't allowed
abbrev pub AreJudged : List Example → Type 0
AreJudged [] = Unit {0}
AreJudged (x ∷ xs) = IsLegal x.setting (reverse x.entries) × AreWrong x x.wrong × AreJudged xs

abbrev entry : ℕ → Action → Reply → Event
entry w call reply = record { worker = w; action = call; reply = reply }

-- a peer joins, shows these pieces, of which we lack some, and unchokes us
abbrev enters : ℕ → List Bool → List Event → List Event
enters w flags rest = entry w Join Joined ∷ entry w (Bits flags) (Noted true) ∷ entry w Unchoke Quiet ∷ rest

abbrev ending_rules : ℕ → ℕ → ℕ → ℕ → ℕ → ℕ → Bool → Rules
ending_rules depth random askers deepest most_open rush shown = record {
  depth = depth;
  random = random;
  askers = askers;
  deepest = deepest;
  «open» = most_open;
  rush = rush;
  shown = shown;
}

abbrev open_rules : ℕ → ℕ → ℕ → ℕ → ℕ → Rules
open_rules depth random askers deepest most_open = ending_rules depth random askers deepest most_open MOST_TOLD_DEPTH false

abbrev bounded_rules : ℕ → ℕ → ℕ → ℕ → Rules
bounded_rules depth random askers deepest = open_rules depth random askers deepest 0

abbrev rules : ℕ → ℕ → Rules
rules depth random = bounded_rules depth random MOST_WORKERS MOST_DEPTH

abbrev block_of : ℕ → ℕ → ℕ → Block
block_of piece begin len = record { piece = piece; begin = begin; len = len }

abbrev digest_of_abc : List ℕ
digest_of_abc =
    0xa9 ∷ 0x99 ∷ 0x3e ∷ 0x36 ∷ 0x47 ∷ 0x06 ∷ 0x81 ∷ 0x6a ∷ 0xba ∷ 0x3e
    ∷ 0x25 ∷ 0x71 ∷ 0x78 ∷ 0x50 ∷ 0xc2 ∷ 0x6c ∷ 0x9c ∷ 0xd0 ∷ 0xd8 ∷ 0x9d ∷ []

abbrev digest_of_a : List ℕ
digest_of_a =
    0x86 ∷ 0xf7 ∷ 0xe4 ∷ 0x37 ∷ 0xfa ∷ 0xa5 ∷ 0xa7 ∷ 0xfc ∷ 0xe1 ∷ 0x5d
    ∷ 0x1d ∷ 0xdc ∷ 0xb9 ∷ 0xea ∷ 0xea ∷ 0xea ∷ 0x37 ∷ 0x76 ∷ 0x67 ∷ 0xb8 ∷ []

abbrev digest_of_million : List ℕ
digest_of_million =
    0x34 ∷ 0xaa ∷ 0x97 ∷ 0x3c ∷ 0xd4 ∷ 0xc4 ∷ 0xda ∷ 0xa4 ∷ 0xf6 ∷ 0x1e
    ∷ 0xeb ∷ 0x2b ∷ 0xdb ∷ 0xad ∷ 0x27 ∷ 0x31 ∷ 0x65 ∷ 0x34 ∷ 0x01 ∷ 0x6f ∷ []

abbrev torrent_short_last : Layout
torrent_short_last = record { piece_length = 3; total = 7; hashes = digest_of_abc ∷ digest_of_abc ∷ digest_of_a ∷ [] }

abbrev torrent_one_piece : Layout
torrent_one_piece = record { piece_length = 3; total = 3; hashes = digest_of_abc ∷ [] }

abbrev torrent_two_pieces : Layout
torrent_two_pieces = record { piece_length = 3; total = 6; hashes = digest_of_abc ∷ digest_of_abc ∷ [] }

abbrev torrent_two_blocks : Layout
torrent_two_blocks = record { piece_length = 32768; total = 65536; hashes = digest_of_abc ∷ digest_of_abc ∷ [] }

abbrev torrent_many_blocks : Layout
torrent_many_blocks = record { piece_length = 1000000; total = 1000000; hashes = digest_of_million ∷ [] }

abbrev torrent_four_pieces : Layout
torrent_four_pieces = record { piece_length = 3; total = 12; hashes = digest_of_abc ∷ digest_of_abc ∷ digest_of_abc ∷ digest_of_abc ∷ [] }

abbrev torrent_four_pairs : Layout
torrent_four_pairs = record { piece_length = 32768; total = 131072; hashes = digest_of_abc ∷ digest_of_abc ∷ digest_of_abc ∷ digest_of_abc ∷ [] }

abbrev torrent_two_pairs_and_a_byte : Layout
torrent_two_pairs_and_a_byte = record { piece_length = 32768; total = 65537; hashes = digest_of_abc ∷ digest_of_abc ∷ digest_of_a ∷ [] }

-- 1: noted from before the bits
-- 3: request of a wrong length
abbrev first_request : Example
first_request = example (setting_of torrent_short_last 1 usual_rules)
    (enters 0 (true ∷ true ∷ true ∷ [])
    (entry 0 (Next 5) (Request (block_of 2 0 1)) ∷ []))
    ((1, entry 0 (Bits (true ∷ true ∷ true ∷ [])) (Noted false))
    ∷ (3, entry 0 (Next 5) (Request (block_of 2 0 3))) ∷ [])

abbrev another_first_request : Example
another_first_request = example (setting_of torrent_short_last 1 usual_rules)
    (enters 0 (true ∷ true ∷ true ∷ [])
    (entry 0 (Next 5) (Request (block_of 0 0 3)) ∷ []))
    []

-- 3: idle though a block is usable
abbrev one_peer_to_the_end : Example
one_peer_to_the_end = example (setting_of torrent_short_last 1 usual_rules)
    (enters 0 (true ∷ true ∷ true ∷ [])
    (entry 0 (Next 5) (Request (block_of 2 0 1))
    ∷ entry 0 (Next 0) (Request (block_of 0 0 3))
    ∷ entry 0 (Next 0) (Request (block_of 1 0 3))
    ∷ entry 0 (Next 0) Idle
    ∷ entry 0 (Arrived 2 0 (97 ∷ [])) Completed
    ∷ entry 0 (Settle 2 (97 ∷ [])) Had
    ∷ entry 0 (Arrived 0 0 (97 ∷ 98 ∷ 99 ∷ [])) Completed
    ∷ entry 0 (Settle 0 (97 ∷ 98 ∷ 99 ∷ [])) Had
    ∷ entry 0 (Arrived 1 0 (97 ∷ 98 ∷ 99 ∷ [])) Completed
    ∷ entry 0 (Settle 1 (97 ∷ 98 ∷ 99 ∷ [])) Had
    ∷ entry 0 (Next 0) NothingLeft ∷ []))
    ((3, entry 0 (Next 5) Idle) ∷ [])

-- 8: commoner piece started
abbrev rarest_first : Example
rarest_first = example (setting_of torrent_short_last 2 usual_rules)
    (entry 0 Join Joined
    ∷ entry 0 (Bits (true ∷ true ∷ true ∷ [])) (Noted true)
    ∷ entry 1 Join Joined
    ∷ entry 1 (Bits (false ∷ true ∷ false ∷ [])) (Noted true)
    ∷ entry 0 Unchoke Quiet
    ∷ entry 0 (Next 2) (Request (block_of 2 0 1))
    ∷ entry 0 (Arrived 2 0 (97 ∷ [])) Completed
    ∷ entry 0 (Settle 2 (97 ∷ [])) Had
    ∷ entry 0 (Next 1) (Request (block_of 0 0 3)) ∷ [])
    ((8, entry 0 (Next 1) (Request (block_of 1 0 3))) ∷ [])

-- 8: sixth request
-- 7: pipe full after four
abbrev full_pipe : Example
full_pipe = example (setting_of torrent_many_blocks 2 usual_rules)
    (enters 0 (true ∷ [])
    (entry 0 (Next 0) (Request (block_of 0 0 16384))
    ∷ entry 0 (Next 0) (Request (block_of 0 16384 16384))
    ∷ entry 0 (Next 0) (Request (block_of 0 32768 16384))
    ∷ entry 0 (Next 0) (Request (block_of 0 49152 16384))
    ∷ entry 0 (Next 0) (Request (block_of 0 65536 16384))
    ∷ entry 0 (Next 0) PipeFull ∷ []))
    ((8, entry 0 (Next 0) (Request (block_of 0 81920 16384)))
    ∷ (7, entry 0 (Next 0) PipeFull) ∷ [])

-- 13: pipe full though the choke freed it
abbrev choke_frees : Example
choke_frees = example (setting_of torrent_many_blocks 2 usual_rules)
    (enters 0 (true ∷ [])
    (entry 0 (Next 0) (Request (block_of 0 0 16384))
    ∷ entry 0 (Next 0) (Request (block_of 0 16384 16384))
    ∷ entry 0 (Next 0) (Request (block_of 0 32768 16384))
    ∷ entry 0 (Next 0) (Request (block_of 0 49152 16384))
    ∷ entry 0 (Next 0) (Request (block_of 0 65536 16384))
    ∷ entry 0 (Next 0) PipeFull
    ∷ entry 0 Choke Quiet
    ∷ enters 1 (true ∷ [])
    (entry 1 (Next 0) (Request (block_of 0 0 16384))
    ∷ entry 0 (Next 0) Choked ∷ [])))
    ((13, entry 0 (Next 0) PipeFull) ∷ [])

-- 9: idle though a cancel is due
abbrev cancel_in_endgame : Example
cancel_in_endgame = example (setting_of torrent_one_piece 2 usual_rules)
    (enters 0 (true ∷ [])
    (enters 1 (true ∷ [])
    (entry 0 (Next 0) (Request (block_of 0 0 3))
    ∷ entry 1 (Next 0) (Request (block_of 0 0 3))
    ∷ entry 0 (Arrived 0 0 (97 ∷ 98 ∷ 99 ∷ [])) Completed
    ∷ entry 1 (Next 0) (Cancel (block_of 0 0 3))
    ∷ entry 1 (Next 0) Idle
    ∷ entry 0 (Settle 0 (97 ∷ 98 ∷ 99 ∷ [])) Had
    ∷ entry 1 (Next 0) NothingLeft
    ∷ entry 1 (Arrived 0 0 (97 ∷ 98 ∷ 99 ∷ [])) Dropped ∷ [])))
    ((9, entry 1 (Next 0) Idle) ∷ [])

-- 7: second peer asked before endgame
abbrev no_double_before_endgame : Example
no_double_before_endgame = example (setting_of torrent_two_pieces 2 usual_rules)
    (enters 0 (true ∷ true ∷ [])
    (entry 0 (Next 0) (Request (block_of 0 0 3))
    ∷ enters 1 (true ∷ false ∷ [])
    (entry 1 (Next 0) Idle ∷ [])))
    ((7, entry 1 (Next 0) (Request (block_of 0 0 3))) ∷ [])

-- 16: second peer asked while a block is unasked
abbrev double_outlasts_endgame : Example
double_outlasts_endgame = example (setting_of torrent_two_pieces 4 usual_rules)
    (enters 0 (true ∷ false ∷ [])
    (enters 2 (false ∷ true ∷ [])
    (enters 1 (true ∷ false ∷ [])
    (entry 0 (Next 0) (Request (block_of 0 0 3))
    ∷ entry 2 (Next 0) (Request (block_of 1 0 3))
    ∷ entry 1 (Next 0) (Request (block_of 0 0 3))
    ∷ entry 2 Choke Quiet
    ∷ enters 3 (true ∷ false ∷ [])
    (entry 3 (Next 0) Idle
    ∷ entry 0 (Arrived 0 0 (97 ∷ 98 ∷ 99 ∷ [])) Completed
    ∷ entry 1 (Next 0) (Cancel (block_of 0 0 3)) ∷ [])))))
    ((16, entry 3 (Next 0) (Request (block_of 0 0 3))) ∷ [])

abbrev failed_check : Example
failed_check = example (setting_of torrent_short_last 1 usual_rules)
    (enters 0 (true ∷ true ∷ true ∷ [])
    (entry 0 (Next 0) (Request (block_of 0 0 3))
    ∷ entry 0 (Arrived 0 0 (97 ∷ 98 ∷ 100 ∷ [])) Completed
    ∷ entry 0 (Settle 0 (97 ∷ 98 ∷ 100 ∷ [])) Failed
    ∷ entry 0 (Next 0) (Request (block_of 0 0 3))
    ∷ entry 0 (Settle 0 (97 ∷ 98 ∷ 100 ∷ [])) (Refused NotWaiting) ∷ []))
    []

-- 9: had with another hash
-- 9: replaced bytes settled
abbrev failed_check_in_endgame : Example
failed_check_in_endgame = example (setting_of torrent_one_piece 2 usual_rules)
    (enters 0 (true ∷ [])
    (enters 1 (true ∷ [])
    (entry 0 (Next 0) (Request (block_of 0 0 3))
    ∷ entry 1 (Next 0) (Request (block_of 0 0 3))
    ∷ entry 0 (Arrived 0 0 (97 ∷ 98 ∷ 100 ∷ [])) Completed
    ∷ entry 0 (Settle 0 (97 ∷ 98 ∷ 100 ∷ [])) Failed
    ∷ entry 1 (Next 0) (Cancel (block_of 0 0 3))
    ∷ entry 1 (Next 0) (Request (block_of 0 0 3)) ∷ [])))
    ((9, entry 0 (Settle 0 (97 ∷ 98 ∷ 100 ∷ [])) Had)
    ∷ (9, entry 0 (Settle 0 (97 ∷ 98 ∷ 99 ∷ [])) Had) ∷ [])

-- 2: block stored twice
-- 2: late bits noted
abbrev held_block_dropped : Example
held_block_dropped = example (setting_of torrent_short_last 1 usual_rules)
    (entry 0 Join Joined
    ∷ entry 0 (Arrived 2 0 (97 ∷ [])) Completed
    ∷ entry 0 (Arrived 2 0 (97 ∷ [])) Dropped ∷ [])
    ((2, entry 0 (Arrived 2 0 (97 ∷ [])) Completed)
    ∷ (2, entry 0 (Bits (true ∷ true ∷ true ∷ [])) (Noted true)) ∷ [])

abbrev block_by_block : Example
block_by_block = example (setting_of torrent_two_blocks 1 usual_rules)
    (entry 0 Join Joined
    ∷ entry 0 (Arrived 0 0 (replicate 16384 97)) Stored
    ∷ entry 0 (Arrived 0 0 (replicate 16384 97)) Dropped
    ∷ entry 0 (Arrived 0 16384 (replicate 16384 97)) Completed ∷ [])
    []

abbrev refusals : Example
refusals = example (setting_of torrent_short_last 2 usual_rules)
    (entry 0 Leave (Refused NotJoined)
    ∷ entry 1 (Arrived 9 9 (97 ∷ [])) (Refused NotJoined)
    ∷ entry 0 Join Joined
    ∷ entry 0 Join (Refused AlreadyJoined)
    ∷ entry 0 (Have 0) (Noted true)
    ∷ entry 0 (Bits (true ∷ true ∷ true ∷ [])) (Refused LateBits)
    ∷ entry 0 (Have 3) (Refused NoSuchPiece)
    ∷ entry 0 (Arrived 3 1 (97 ∷ [])) (Refused NoSuchPiece)
    ∷ entry 0 (Arrived 0 1 (98 ∷ 99 ∷ [])) (Refused NoSuchBlock)
    ∷ entry 0 (Arrived 0 0 (97 ∷ 98 ∷ [])) (Refused WrongLength)
    ∷ entry 0 (Settle 0 (97 ∷ [])) (Refused NotWaiting)
    ∷ entry 0 (Settle 3 (97 ∷ [])) (Refused NoSuchPiece)
    ∷ entry 0 Leave Quiet
    ∷ entry 0 Join Joined
    ∷ entry 0 (Bits (true ∷ true ∷ true ∷ [])) (Noted true)
    ∷ entry 1 Join Joined
    ∷ entry 1 (Bits (false ∷ false ∷ false ∷ [])) (Noted false)
    ∷ entry 1 Unchoke Quiet
    ∷ entry 1 (Next 0) NothingLeft ∷ [])
    []

abbrev wrong_count : Example
wrong_count = example (setting_of torrent_short_last 1 usual_rules)
    (entry 0 Join Joined
    ∷ entry 0 (Bits (false ∷ false ∷ false ∷ false ∷ [])) (Refused WrongCount)
    ∷ entry 0 (Bits (true ∷ true ∷ true ∷ [])) (Noted true) ∷ [])
    []

-- 4: replaced bytes failed
abbrev stale_verdict : Example
stale_verdict = example (setting_of torrent_short_last 1 usual_rules)
    (entry 0 Join Joined
    ∷ entry 0 (Arrived 0 0 (97 ∷ 98 ∷ 100 ∷ [])) Completed
    ∷ entry 0 (Settle 0 (97 ∷ 98 ∷ 100 ∷ [])) Failed
    ∷ entry 0 (Arrived 0 0 (97 ∷ 98 ∷ 99 ∷ [])) Completed
    ∷ entry 0 (Settle 0 (97 ∷ 98 ∷ 100 ∷ [])) (Refused Stale)
    ∷ entry 0 (Settle 0 (97 ∷ 98 ∷ 99 ∷ [])) Had
    ∷ entry 0 (Settle 0 (97 ∷ 98 ∷ 99 ∷ [])) (Refused NotWaiting)
    ∷ entry 0 (Settle 9 (97 ∷ [])) (Refused NoSuchPiece)
    ∷ entry 0 Choke Quiet
    ∷ entry 0 Leave Quiet ∷ [])
    ((4, entry 0 (Settle 0 (97 ∷ 98 ∷ 100 ∷ [])) Failed) ∷ [])

abbrev random_first_piece : Example
random_first_piece = example (setting_of torrent_short_last 2 usual_rules)
    (enters 0 (true ∷ true ∷ true ∷ [])
    (entry 1 Join Joined
    ∷ entry 1 (Bits (true ∷ true ∷ false ∷ [])) (Noted true)
    ∷ entry 0 (Next 1) (Request (block_of 1 0 3)) ∷ []))
    []

abbrev rare_first_piece_too : Example
rare_first_piece_too = example (setting_of torrent_short_last 2 usual_rules)
    (enters 0 (true ∷ true ∷ true ∷ [])
    (entry 1 Join Joined
    ∷ entry 1 (Bits (true ∷ true ∷ false ∷ [])) (Noted true)
    ∷ entry 0 (Next 1) (Request (block_of 2 0 1)) ∷ []))
    []

-- 4: second piece started while a begun one has a usable block
abbrev strict_priority : Example
strict_priority = example (setting_of torrent_two_blocks 1 usual_rules)
    (enters 0 (true ∷ true ∷ [])
    (entry 0 (Next 0) (Request (block_of 0 0 16384))
    ∷ entry 0 (Next 1) (Request (block_of 0 16384 16384))
    ∷ entry 0 (Next 1) (Request (block_of 1 0 16384)) ∷ []))
    ((4, entry 0 (Next 1) (Request (block_of 1 0 16384))) ∷ [])

-- 11: availability counts a peer that left
abbrev gone_peer_not_counted : Example
gone_peer_not_counted = example (setting_of torrent_short_last 3 usual_rules)
    (entry 0 Join Joined
    ∷ entry 0 (Bits (true ∷ true ∷ true ∷ [])) (Noted true)
    ∷ entry 1 Join Joined
    ∷ entry 1 (Bits (true ∷ false ∷ false ∷ [])) (Noted true)
    ∷ entry 2 Join Joined
    ∷ entry 2 (Bits (false ∷ true ∷ false ∷ [])) (Noted true)
    ∷ entry 1 Leave Quiet
    ∷ entry 0 Unchoke Quiet
    ∷ entry 0 (Next 2) (Request (block_of 2 0 1))
    ∷ entry 0 (Arrived 2 0 (97 ∷ [])) Completed
    ∷ entry 0 (Settle 2 (97 ∷ [])) Had
    ∷ entry 0 (Next 1) (Request (block_of 0 0 3)) ∷ [])
    ((11, entry 0 (Next 1) (Request (block_of 1 0 3))) ∷ [])

abbrev rejoin_in_endgame : Example
rejoin_in_endgame = example (setting_of torrent_one_piece 2 usual_rules)
    (enters 0 (true ∷ [])
    (enters 1 (true ∷ [])
    (entry 0 (Next 0) (Request (block_of 0 0 3))
    ∷ entry 1 (Next 0) (Request (block_of 0 0 3))
    ∷ entry 0 Leave Quiet
    ∷ entry 0 Join Joined
    ∷ entry 0 (Next 0) Choked
    ∷ entry 1 (Arrived 0 0 (97 ∷ 98 ∷ 100 ∷ [])) Completed
    ∷ entry 1 (Settle 0 (97 ∷ 98 ∷ 100 ∷ [])) Failed
    ∷ entry 0 (Bits (true ∷ [])) (Noted true)
    ∷ entry 0 Unchoke Quiet
    ∷ entry 0 (Next 0) (Request (block_of 0 0 3)) ∷ [])))
    []

-- 5: third request at depth two
-- 4: pipe full at depth two after one
abbrev depth_two : Example
depth_two = example (setting_of torrent_many_blocks 1 (rules 2 1))
    (enters 0 (true ∷ [])
    (entry 0 (Next 0) (Request (block_of 0 0 16384))
    ∷ entry 0 (Next 0) (Request (block_of 0 16384 16384))
    ∷ entry 0 (Next 0) PipeFull ∷ []))
    ((5, entry 0 (Next 0) (Request (block_of 0 32768 16384)))
    ∷ (4, entry 0 (Next 0) PipeFull) ∷ [])

-- 8: pipe full at five though deep
abbrev deep_pipe : Example
deep_pipe = example (setting_of torrent_many_blocks 1 (rules 64 1))
    (enters 0 (true ∷ [])
    (entry 0 (Next 0) (Request (block_of 0 0 16384))
    ∷ entry 0 (Next 0) (Request (block_of 0 16384 16384))
    ∷ entry 0 (Next 0) (Request (block_of 0 32768 16384))
    ∷ entry 0 (Next 0) (Request (block_of 0 49152 16384))
    ∷ entry 0 (Next 0) (Request (block_of 0 65536 16384))
    ∷ entry 0 (Next 0) (Request (block_of 0 81920 16384))
    ∷ entry 0 (Next 0) (Request (block_of 0 98304 16384))
    ∷ entry 0 (Next 0) (Request (block_of 0 114688 16384)) ∷ []))
    ((8, entry 0 (Next 0) PipeFull) ∷ [])

-- 5: first piece at random though none is
abbrev rarest_from_the_start : Example
rarest_from_the_start = example (setting_of torrent_short_last 2 (rules 5 0))
    (enters 0 (true ∷ true ∷ true ∷ [])
    (entry 1 Join Joined
    ∷ entry 1 (Bits (true ∷ true ∷ false ∷ [])) (Noted true)
    ∷ entry 0 (Next 1) (Request (block_of 2 0 1)) ∷ []))
    ((5, entry 0 (Next 1) (Request (block_of 1 0 3))) ∷ [])

abbrev second_piece_at_random : Example
second_piece_at_random = example (setting_of torrent_short_last 2 (rules 5 2))
    (entry 0 Join Joined
    ∷ entry 0 (Bits (true ∷ true ∷ true ∷ [])) (Noted true)
    ∷ entry 1 Join Joined
    ∷ entry 1 (Bits (false ∷ true ∷ false ∷ [])) (Noted true)
    ∷ entry 0 Unchoke Quiet
    ∷ entry 0 (Next 2) (Request (block_of 2 0 1))
    ∷ entry 0 (Arrived 2 0 (97 ∷ [])) Completed
    ∷ entry 0 (Settle 2 (97 ∷ [])) Had
    ∷ entry 0 (Next 1) (Request (block_of 1 0 3)) ∷ [])
    []

-- 11: third piece at random
abbrev rarest_after_two_pieces : Example
rarest_after_two_pieces = example (setting_of torrent_four_pieces 2 (rules 5 2))
    (enters 0 (true ∷ true ∷ true ∷ true ∷ [])
    (entry 1 Join Joined
    ∷ entry 1 (Bits (false ∷ false ∷ true ∷ true ∷ [])) (Noted true)
    ∷ entry 0 (Next 0) (Request (block_of 0 0 3))
    ∷ entry 0 (Arrived 0 0 (97 ∷ 98 ∷ 99 ∷ [])) Completed
    ∷ entry 0 (Settle 0 (97 ∷ 98 ∷ 99 ∷ [])) Had
    ∷ entry 0 (Next 2) (Request (block_of 2 0 3))
    ∷ entry 0 (Arrived 2 0 (97 ∷ 98 ∷ 99 ∷ [])) Completed
    ∷ entry 0 (Settle 2 (97 ∷ 98 ∷ 99 ∷ [])) Had
    ∷ entry 0 (Next 3) (Request (block_of 1 0 3)) ∷ []))
    ((11, entry 0 (Next 3) (Request (block_of 3 0 3))) ∷ [])

-- 5: unwanted block asked
-- 9: older want still counts
-- 9: idle though nothing is wanted
-- 13: unwanted piece noted
-- 0: want of a stranger refused
-- 14: want of a wrong count taken
abbrev wants : Example
wants = example (setting_of torrent_short_last 2 usual_rules)
    (entry 1 (Want (false ∷ true ∷ false ∷ [])) Quiet
    ∷ enters 0 (true ∷ true ∷ true ∷ [])
    (entry 0 (Next 0) (Request (block_of 1 0 3))
    ∷ entry 0 (Next 0) Idle
    ∷ entry 0 (Want (true ∷ false ∷ true ∷ [])) Quiet
    ∷ entry 0 (Next 0) (Request (block_of 0 0 3))
    ∷ entry 0 (Want (false ∷ false ∷ false ∷ [])) Quiet
    ∷ entry 0 (Next 0) NothingLeft
    ∷ entry 0 (Arrived 1 0 (97 ∷ 98 ∷ 99 ∷ [])) Completed
    ∷ entry 0 (Settle 1 (97 ∷ 98 ∷ 99 ∷ [])) Had
    ∷ entry 0 (Want (false ∷ true ∷ false ∷ [])) Quiet
    ∷ entry 0 (Have 2) (Noted false)
    ∷ entry 1 (Want (false ∷ false ∷ false ∷ false ∷ [])) (Refused WrongCount) ∷ []))
    ((5, entry 0 (Next 0) (Request (block_of 0 0 3)))
    ∷ (9, entry 0 (Next 0) (Request (block_of 2 0 1)))
    ∷ (9, entry 0 (Next 0) Idle)
    ∷ (13, entry 0 (Have 2) (Noted true))
    ∷ (0, entry 1 (Want (false ∷ true ∷ false ∷ [])) (Refused NotJoined))
    ∷ (14, entry 1 (Want (false ∷ false ∷ false ∷ false ∷ [])) Quiet) ∷ [])

-- 8: unwanted block keeps endgame off
abbrev endgame_of_the_wanted : Example
endgame_of_the_wanted = example (setting_of torrent_two_pieces 2 usual_rules)
    (enters 0 (true ∷ true ∷ [])
    (enters 1 (true ∷ true ∷ [])
    (entry 0 (Next 0) (Request (block_of 0 0 3))
    ∷ entry 1 (Want (true ∷ false ∷ [])) Quiet
    ∷ entry 1 (Next 0) (Request (block_of 0 0 3))
    ∷ entry 1 (Want (true ∷ true ∷ [])) Quiet
    ∷ entry 0 (Next 0) (Request (block_of 1 0 3)) ∷ [])))
    ((8, entry 1 (Next 0) Idle) ∷ [])

-- 2: bits late by a want
abbrev want_before_the_bits : Example
want_before_the_bits = example (setting_of torrent_short_last 1 usual_rules)
    (entry 0 Join Joined
    ∷ entry 0 (Want (false ∷ true ∷ false ∷ [])) Quiet
    ∷ entry 0 (Bits (true ∷ true ∷ true ∷ [])) (Noted true) ∷ [])
    ((2, entry 0 (Bits (true ∷ true ∷ true ∷ [])) (Refused LateBits)) ∷ [])

-- 10: unwanted block freed
abbrev asked_stays_asked : Example
asked_stays_asked = example (setting_of torrent_two_pieces 2 usual_rules)
    (enters 0 (true ∷ true ∷ [])
    (enters 1 (true ∷ true ∷ [])
    (entry 0 (Next 0) (Request (block_of 0 0 3))
    ∷ entry 0 (Want (false ∷ true ∷ [])) Quiet
    ∷ entry 0 (Next 0) (Request (block_of 1 0 3))
    ∷ entry 0 (Want (true ∷ true ∷ [])) Quiet
    ∷ entry 1 (Next 0) (Request (block_of 0 0 3))
    ∷ entry 0 (Arrived 0 0 (97 ∷ 98 ∷ 99 ∷ [])) Completed
    ∷ entry 1 (Next 0) (Cancel (block_of 0 0 3)) ∷ [])))
    ((10, entry 0 (Next 0) (Request (block_of 0 0 3))) ∷ [])

-- 9: idle though another peer released
abbrev released_is_asked_elsewhere : Example
released_is_asked_elsewhere = example (setting_of torrent_two_pieces 2 usual_rules)
    (enters 0 (true ∷ true ∷ [])
    (enters 1 (true ∷ false ∷ [])
    (entry 0 (Next 0) (Request (block_of 0 0 3))
    ∷ entry 1 (Next 0) Idle
    ∷ entry 0 (Release 0 0) Quiet
    ∷ entry 1 (Next 0) (Request (block_of 0 0 3))
    ∷ entry 0 (Next 0) (Request (block_of 1 0 3)) ∷ [])))
    ((9, entry 1 (Next 0) Idle) ∷ [])

-- 9: cancel of what another peer released
-- 11: cancel of a released block
abbrev released_in_endgame : Example
released_in_endgame = example (setting_of torrent_one_piece 2 usual_rules)
    (enters 0 (true ∷ [])
    (enters 1 (true ∷ [])
    (entry 0 (Next 0) (Request (block_of 0 0 3))
    ∷ entry 1 (Next 0) (Request (block_of 0 0 3))
    ∷ entry 0 (Release 0 0) Quiet
    ∷ entry 1 (Next 0) Idle
    ∷ entry 1 (Arrived 0 0 (97 ∷ 98 ∷ 99 ∷ [])) Completed
    ∷ entry 0 (Next 0) Idle
    ∷ entry 1 (Settle 0 (97 ∷ 98 ∷ 99 ∷ [])) Had
    ∷ entry 0 (Next 0) NothingLeft ∷ [])))
    ((9, entry 1 (Next 0) (Cancel (block_of 0 0 3)))
    ∷ (11, entry 0 (Next 0) (Cancel (block_of 0 0 3))) ∷ [])

-- 6: released piece continued
abbrev released_piece_is_unbegun : Example
released_piece_is_unbegun = example (setting_of torrent_two_blocks 1 usual_rules)
    (enters 0 (true ∷ true ∷ [])
    (entry 0 (Next 0) (Request (block_of 0 0 16384))
    ∷ entry 0 (Release 0 0) Quiet
    ∷ entry 0 (Next 1) (Request (block_of 1 0 16384))
    ∷ entry 0 (Next 0) (Request (block_of 1 16384 16384))
    ∷ entry 0 (Next 0) (Request (block_of 0 0 16384)) ∷ []))
    ((6, entry 0 (Next 0) (Request (block_of 0 16384 16384))) ∷ [])

-- 6: idle though released
abbrev released_is_asked_again : Example
released_is_asked_again = example (setting_of torrent_one_piece 1 usual_rules)
    (enters 0 (true ∷ [])
    (entry 0 (Next 0) (Request (block_of 0 0 3))
    ∷ entry 0 (Next 0) Idle
    ∷ entry 0 (Release 0 0) Quiet
    ∷ entry 0 (Next 0) (Request (block_of 0 0 3)) ∷ []))
    ((6, entry 0 (Next 0) Idle) ∷ [])

-- 5: released block dropped
abbrev released_arrives_after_all : Example
released_arrives_after_all = example (setting_of torrent_two_blocks 1 usual_rules)
    (enters 0 (true ∷ true ∷ [])
    (entry 0 (Next 0) (Request (block_of 0 0 16384))
    ∷ entry 0 (Release 0 0) Quiet
    ∷ entry 0 (Arrived 0 0 (replicate 16384 97)) Stored
    ∷ entry 0 (Next 0) (Request (block_of 0 16384 16384)) ∷ []))
    ((5, entry 0 (Arrived 0 0 (replicate 16384 97)) Dropped) ∷ [])

-- 9: idle though the other peer is late
-- 10: late block asked again of its own peer
-- 10: idle though late with another piece
-- 12: no cancel since it was late
abbrev late_is_asked_elsewhere : Example
late_is_asked_elsewhere = example (setting_of torrent_two_pieces 2 usual_rules)
    (enters 0 (true ∷ true ∷ [])
    (enters 1 (true ∷ false ∷ [])
    (entry 0 (Next 0) (Request (block_of 0 0 3))
    ∷ entry 1 (Next 0) Idle
    ∷ entry 0 (Late 0 0) Quiet
    ∷ entry 1 (Next 0) (Request (block_of 0 0 3))
    ∷ entry 0 (Next 0) (Request (block_of 1 0 3))
    ∷ entry 1 (Arrived 0 0 (97 ∷ 98 ∷ 99 ∷ [])) Completed
    ∷ entry 0 (Next 0) (Cancel (block_of 0 0 3)) ∷ [])))
    ((9, entry 1 (Next 0) Idle)
    ∷ (10, entry 0 (Next 0) (Request (block_of 0 0 3)))
    ∷ (10, entry 0 (Next 0) Idle)
    ∷ (12, entry 0 (Next 0) Idle) ∷ [])

-- 9: second peer asked though a late block waits
-- 9: nothing left though it is late
-- 14: idle though the late block was given on
abbrev late_holds_up_endgame : Example
late_holds_up_endgame = example (setting_of torrent_two_pieces 3 usual_rules)
    (enters 0 (true ∷ true ∷ [])
    (enters 1 (false ∷ true ∷ [])
    (entry 0 (Next 0) (Request (block_of 0 0 3))
    ∷ entry 1 (Next 1) (Request (block_of 1 0 3))
    ∷ entry 0 (Late 0 0) Quiet
    ∷ entry 0 (Next 0) Idle
    ∷ enters 2 (true ∷ false ∷ [])
    (entry 2 (Next 0) (Request (block_of 0 0 3))
    ∷ entry 0 (Next 0) (Request (block_of 1 0 3)) ∷ []))))
    ((9, entry 0 (Next 0) (Request (block_of 1 0 3)))
    ∷ (9, entry 0 (Next 0) NothingLeft)
    ∷ (14, entry 0 (Next 0) Idle) ∷ [])

-- 12: late peer counted as an asker
-- 13: late twice refused
-- 14: late twice counted twice
abbrev late_in_spite_of_one_asker : Example
late_in_spite_of_one_asker = example (setting_of torrent_one_piece 3 (bounded_rules 5 1 1 64))
    (enters 0 (true ∷ [])
    (enters 1 (true ∷ [])
    (enters 2 (true ∷ [])
    (entry 0 (Next 0) (Request (block_of 0 0 3))
    ∷ entry 1 (Next 0) Idle
    ∷ entry 0 (Late 0 0) Quiet
    ∷ entry 1 (Next 0) (Request (block_of 0 0 3))
    ∷ entry 0 (Late 0 0) Quiet
    ∷ entry 2 (Next 0) Idle
    ∷ entry 1 (Late 0 0) Quiet
    ∷ entry 2 (Next 0) (Request (block_of 0 0 3)) ∷ []))))
    ((12, entry 1 (Next 0) Idle)
    ∷ (13, entry 0 (Late 0 0) (Refused NotAsked))
    ∷ (14, entry 2 (Next 0) (Request (block_of 0 0 3))) ∷ [])

-- 11: late though the block came
-- 16: late though the peer choked us
abbrev late_no_more : Example
late_no_more = example (setting_of torrent_two_pieces 2 usual_rules)
    (enters 0 (true ∷ true ∷ [])
    (enters 1 (true ∷ false ∷ [])
    (entry 0 (Next 0) (Request (block_of 0 0 3))
    ∷ entry 0 (Late 0 0) Quiet
    ∷ entry 0 (Arrived 0 0 (97 ∷ 98 ∷ 100 ∷ [])) Completed
    ∷ entry 0 (Settle 0 (97 ∷ 98 ∷ 100 ∷ [])) Failed
    ∷ entry 0 (Next 0) (Request (block_of 0 0 3))
    ∷ entry 1 (Next 0) Idle
    ∷ entry 0 (Late 0 0) Quiet
    ∷ entry 0 Choke Quiet
    ∷ entry 0 Unchoke Quiet
    ∷ entry 0 (Next 0) (Request (block_of 0 0 3))
    ∷ entry 1 (Next 0) Idle ∷ [])))
    ((11, entry 1 (Next 0) (Request (block_of 0 0 3)))
    ∷ (16, entry 1 (Next 0) (Request (block_of 0 0 3))) ∷ [])

-- 5: second request at a depth of one
abbrev depth_of_one : Example
depth_of_one = example (setting_of torrent_many_blocks 1 usual_rules)
    (enters 0 (true ∷ [])
    (entry 0 (Depth 1) Quiet
    ∷ entry 0 (Next 0) (Request (block_of 0 0 16384))
    ∷ entry 0 (Next 0) PipeFull ∷ []))
    ((5, entry 0 (Next 0) (Request (block_of 0 16384 16384))) ∷ [])

-- 10: pipe full though deepened
abbrev deepened : Example
deepened = example (setting_of torrent_many_blocks 1 usual_rules)
    (enters 0 (true ∷ [])
    (entry 0 (Next 0) (Request (block_of 0 0 16384))
    ∷ entry 0 (Next 0) (Request (block_of 0 16384 16384))
    ∷ entry 0 (Next 0) (Request (block_of 0 32768 16384))
    ∷ entry 0 (Next 0) (Request (block_of 0 49152 16384))
    ∷ entry 0 (Next 0) (Request (block_of 0 65536 16384))
    ∷ entry 0 (Next 0) PipeFull
    ∷ entry 0 (Depth 7) Quiet
    ∷ entry 0 (Next 0) (Request (block_of 0 81920 16384))
    ∷ entry 0 (Next 0) (Request (block_of 0 98304 16384))
    ∷ entry 0 (Next 0) PipeFull ∷ []))
    ((10, entry 0 (Next 0) PipeFull) ∷ [])

-- 11: depth forgotten at a choke
abbrev depth_outlasts_a_choke : Example
depth_outlasts_a_choke = example (setting_of torrent_many_blocks 1 usual_rules)
    (enters 0 (true ∷ [])
    (entry 0 (Depth 2) Quiet
    ∷ entry 0 (Next 0) (Request (block_of 0 0 16384))
    ∷ entry 0 (Next 0) (Request (block_of 0 16384 16384))
    ∷ entry 0 (Next 0) PipeFull
    ∷ entry 0 Choke Quiet
    ∷ entry 0 Unchoke Quiet
    ∷ entry 0 (Next 0) (Request (block_of 0 0 16384))
    ∷ entry 0 (Next 0) (Request (block_of 0 16384 16384))
    ∷ entry 0 (Next 0) PipeFull ∷ []))
    ((11, entry 0 (Next 0) (Request (block_of 0 32768 16384))) ∷ [])

-- 11: depth outlasts its peer
abbrev depth_goes_with_its_peer : Example
depth_goes_with_its_peer = example (setting_of torrent_many_blocks 1 usual_rules)
    (enters 0 (true ∷ [])
    (entry 0 (Depth 1) Quiet
    ∷ entry 0 (Next 0) (Request (block_of 0 0 16384))
    ∷ entry 0 (Next 0) PipeFull
    ∷ entry 0 Leave Quiet
    ∷ enters 0 (true ∷ [])
    (entry 0 (Next 0) (Request (block_of 0 0 16384))
    ∷ entry 0 (Next 0) (Request (block_of 0 16384 16384)) ∷ [])))
    ((11, entry 0 (Next 0) PipeFull) ∷ [])

-- 7: request beyond a smaller depth
-- 11: pipe full though enough came
abbrev smaller_depth : Example
smaller_depth = example (setting_of torrent_many_blocks 1 usual_rules)
    (enters 0 (true ∷ [])
    (entry 0 (Next 0) (Request (block_of 0 0 16384))
    ∷ entry 0 (Next 0) (Request (block_of 0 16384 16384))
    ∷ entry 0 (Next 0) (Request (block_of 0 32768 16384))
    ∷ entry 0 (Depth 2) Quiet
    ∷ entry 0 (Next 0) PipeFull
    ∷ entry 0 (Arrived 0 0 (replicate 16384 97)) Stored
    ∷ entry 0 (Next 0) PipeFull
    ∷ entry 0 (Arrived 0 16384 (replicate 16384 97)) Stored
    ∷ entry 0 (Next 0) (Request (block_of 0 49152 16384))
    ∷ entry 0 (Next 0) PipeFull ∷ []))
    ((7, entry 0 (Next 0) (Request (block_of 0 49152 16384)))
    ∷ (11, entry 0 (Next 0) PipeFull) ∷ [])

-- 7: second asker of one
abbrev one_asker : Example
one_asker = example (setting_of torrent_one_piece 2 (bounded_rules 5 1 1 64))
    (enters 0 (true ∷ [])
    (enters 1 (true ∷ [])
    (entry 0 (Next 0) (Request (block_of 0 0 3))
    ∷ entry 1 (Next 0) Idle
    ∷ entry 0 (Release 0 0) Quiet
    ∷ entry 1 (Next 0) (Request (block_of 0 0 3))
    ∷ entry 0 (Next 0) Idle ∷ [])))
    ((7, entry 1 (Next 0) (Request (block_of 0 0 3))) ∷ [])

-- 11: third asker of two
-- 7: second asker of two idle
abbrev two_askers : Example
two_askers = example (setting_of torrent_one_piece 3 (bounded_rules 5 1 2 64))
    (enters 0 (true ∷ [])
    (enters 1 (true ∷ [])
    (entry 0 (Next 0) (Request (block_of 0 0 3))
    ∷ entry 1 (Next 0) (Request (block_of 0 0 3))
    ∷ enters 2 (true ∷ [])
    (entry 2 (Next 0) Idle
    ∷ entry 1 Choke Quiet
    ∷ entry 2 (Next 0) (Request (block_of 0 0 3)) ∷ []))))
    ((11, entry 2 (Next 0) (Request (block_of 0 0 3)))
    ∷ (7, entry 1 (Next 0) Idle) ∷ [])

-- 1: depth told though none may be
abbrev no_depth_may_be_told : Example
no_depth_may_be_told = example (setting_of torrent_short_last 1 (bounded_rules 5 1 1024 0))
    (entry 0 Join Joined
    ∷ entry 0 (Depth 1) (Refused WrongDepth) ∷ [])
    ((1, entry 0 (Depth 1) Quiet) ∷ [])

-- 1: depth beyond any
abbrev greatest_depth : Example
greatest_depth = example (setting_of torrent_short_last 1 (bounded_rules 5 1 1024 9999))
    (entry 0 Join Joined
    ∷ entry 0 (Depth 4097) (Refused WrongDepth)
    ∷ entry 0 (Depth 4096) Quiet ∷ [])
    ((1, entry 0 (Depth 4097) Quiet) ∷ [])

-- 5: unasked block released
-- 10: block of another peer released
-- 13: depth of none told
-- 14: depth beyond the rules told
-- 17: block released twice
abbrev refusals_of_release_and_depth : Example
refusals_of_release_and_depth = example (setting_of torrent_short_last 2 usual_rules)
    (entry 0 (Release 0 0) (Refused NotJoined)
    ∷ entry 0 (Depth 3) (Refused NotJoined)
    ∷ enters 0 (true ∷ true ∷ true ∷ [])
    (entry 0 (Release 0 0) (Refused NotAsked)
    ∷ entry 0 (Next 0) (Request (block_of 0 0 3))
    ∷ enters 1 (true ∷ false ∷ false ∷ [])
    (entry 1 (Release 0 0) (Refused NotAsked)
    ∷ entry 0 (Release 0 1) (Refused NotAsked)
    ∷ entry 0 (Release 9 0) (Refused NotAsked)
    ∷ entry 0 (Depth 0) (Refused WrongDepth)
    ∷ entry 0 (Depth 65) (Refused WrongDepth)
    ∷ entry 0 (Depth 64) Quiet
    ∷ entry 0 (Release 0 0) Quiet
    ∷ entry 0 (Release 0 0) (Refused NotAsked) ∷ [])))
    ((5, entry 0 (Release 0 0) Quiet)
    ∷ (10, entry 1 (Release 0 0) Quiet)
    ∷ (13, entry 0 (Depth 0) Quiet)
    ∷ (14, entry 0 (Depth 65) Quiet)
    ∷ (17, entry 0 (Release 0 0) Quiet) ∷ [])

-- 5: idle though the bitfield shows more
-- 7: nothing left though the bitfield shows more
abbrev haves_after_a_bitfield : Example
haves_after_a_bitfield = example (setting_of torrent_short_last 1 usual_rules)
    (entry 0 Join Joined
    ∷ entry 0 (Bits (true ∷ false ∷ false ∷ [])) (Noted true)
    ∷ entry 0 (Haves (false ∷ true ∷ false ∷ [])) (Noted true)
    ∷ entry 0 Unchoke Quiet
    ∷ entry 0 (Next 0) (Request (block_of 1 0 3))
    ∷ entry 0 (Arrived 1 0 (97 ∷ 98 ∷ 99 ∷ [])) Completed
    ∷ entry 0 (Settle 1 (97 ∷ 98 ∷ 99 ∷ [])) Had
    ∷ entry 0 (Next 0) (Request (block_of 0 0 3))
    ∷ entry 0 (Next 0) Idle ∷ [])
    ((5, entry 0 (Next 0) Idle)
    ∷ (7, entry 0 (Next 0) NothingLeft) ∷ [])

-- 3: bits after haves noted
abbrev haves_after_a_have : Example
haves_after_a_have = example (setting_of torrent_short_last 1 usual_rules)
    (entry 0 Join Joined
    ∷ entry 0 (Have 2) (Noted true)
    ∷ entry 0 (Haves (true ∷ false ∷ false ∷ [])) (Noted true)
    ∷ entry 0 (Bits (true ∷ true ∷ true ∷ [])) (Refused LateBits)
    ∷ entry 0 Unchoke Quiet
    ∷ entry 0 (Next 0) (Request (block_of 2 0 1))
    ∷ entry 0 (Next 0) (Request (block_of 0 0 3))
    ∷ entry 0 (Next 0) Idle ∷ [])
    ((3, entry 0 (Bits (true ∷ true ∷ true ∷ [])) (Noted true)) ∷ [])

-- 9: haves noted without the bits
abbrev haves_of_none : Example
haves_of_none = example (setting_of torrent_short_last 2 usual_rules)
    (entry 0 (Haves (true ∷ true ∷ true ∷ [])) (Refused NotJoined)
    ∷ entry 0 Join Joined
    ∷ entry 0 (Haves (false ∷ false ∷ false ∷ false ∷ [])) (Refused WrongCount)
    ∷ entry 0 (Haves (false ∷ false ∷ false ∷ [])) (Noted false)
    ∷ entry 0 (Bits (true ∷ true ∷ true ∷ [])) (Refused LateBits)
    ∷ entry 0 Unchoke Quiet
    ∷ entry 0 (Next 0) NothingLeft
    ∷ entry 1 Join Joined
    ∷ entry 1 (Bits (true ∷ false ∷ false ∷ [])) (Noted true)
    ∷ entry 1 (Haves (false ∷ false ∷ false ∷ [])) (Noted true)
    ∷ entry 1 Unchoke Quiet
    ∷ entry 1 (Next 0) (Request (block_of 0 0 3)) ∷ [])
    ((9, entry 1 (Haves (false ∷ false ∷ false ∷ [])) (Noted false)) ∷ [])

-- 6: availability without the haves
abbrev haves_are_counted : Example
haves_are_counted = example (setting_of torrent_short_last 2 (rules 5 0))
    (enters 0 (true ∷ true ∷ true ∷ [])
    (entry 1 Join Joined
    ∷ entry 1 (Bits (true ∷ false ∷ false ∷ [])) (Noted true)
    ∷ entry 1 (Haves (false ∷ false ∷ true ∷ [])) (Noted true)
    ∷ entry 0 (Next 0) (Request (block_of 1 0 3)) ∷ []))
    ((6, entry 0 (Next 0) (Request (block_of 2 0 1))) ∷ [])

-- 10: low level asked first
-- 10: commoner piece of the level started
-- 11: rarer piece of a lower level started
-- 12: second peer asked though a low level is unasked
abbrev two_levels : Example
two_levels = example (setting_of torrent_four_pieces 3 (rules 5 0))
    (entry 2 (Levels (2 ∷ 7 ∷ 7 ∷ 2 ∷ [])) Quiet
    ∷ enters 0 (true ∷ true ∷ true ∷ true ∷ [])
    (enters 1 (true ∷ true ∷ false ∷ false ∷ [])
    (enters 2 (false ∷ true ∷ true ∷ true ∷ [])
    (entry 0 (Next 0) (Request (block_of 2 0 3))
    ∷ entry 1 (Next 0) (Request (block_of 1 0 3))
    ∷ entry 2 (Next 0) (Request (block_of 3 0 3))
    ∷ entry 0 (Next 0) (Request (block_of 0 0 3))
    ∷ entry 1 (Next 0) (Request (block_of 0 0 3)) ∷ []))))
    ((10, entry 0 (Next 0) (Request (block_of 0 0 3)))
    ∷ (10, entry 0 (Next 0) (Request (block_of 1 0 3)))
    ∷ (11, entry 1 (Next 0) (Request (block_of 0 0 3)))
    ∷ (12, entry 2 (Next 0) (Request (block_of 2 0 3))) ∷ [])

-- 5: begun piece of a lower level continued
abbrev raised_in_mid_download : Example
raised_in_mid_download = example (setting_of torrent_two_blocks 1 usual_rules)
    (enters 0 (true ∷ true ∷ [])
    (entry 0 (Next 0) (Request (block_of 0 0 16384))
    ∷ entry 0 (Level 1 5) Quiet
    ∷ entry 0 (Next 0) (Request (block_of 1 0 16384))
    ∷ entry 0 (Next 0) (Request (block_of 1 16384 16384))
    ∷ entry 0 (Next 0) (Request (block_of 0 16384 16384)) ∷ []))
    ((5, entry 0 (Next 0) (Request (block_of 0 16384 16384))) ∷ [])

-- 5: in order before levels
-- 6: in order by the wrong end
-- 9: moved head passed over
abbrev streaming : Example
streaming = example (setting_of torrent_four_pieces 1 usual_rules)
    (enters 0 (true ∷ true ∷ true ∷ true ∷ [])
    (entry 0 (InOrder true) Quiet
    ∷ entry 0 (Level 2 5) Quiet
    ∷ entry 0 (Next 0) (Request (block_of 2 0 3))
    ∷ entry 0 (Next 0) (Request (block_of 0 0 3))
    ∷ entry 0 (Level 2 4) Quiet
    ∷ entry 0 (Level 3 5) Quiet
    ∷ entry 0 (Next 0) (Request (block_of 3 0 3))
    ∷ entry 0 (Next 0) (Request (block_of 1 0 3)) ∷ []))
    ((5, entry 0 (Next 0) (Request (block_of 0 0 3)))
    ∷ (6, entry 0 (Next 0) (Request (block_of 3 0 3)))
    ∷ (9, entry 0 (Next 0) (Request (block_of 1 0 3))) ∷ [])

-- 6: begun piece continued though in order
abbrev earlier_piece_in_order : Example
earlier_piece_in_order = example (setting_of torrent_two_blocks 1 usual_rules)
    (enters 0 (false ∷ true ∷ [])
    (entry 0 (Next 0) (Request (block_of 1 0 16384))
    ∷ entry 0 (InOrder true) Quiet
    ∷ entry 0 (Have 0) (Noted true)
    ∷ entry 0 (Next 0) (Request (block_of 0 0 16384))
    ∷ entry 0 (Next 0) (Request (block_of 0 16384 16384))
    ∷ entry 0 (Next 0) (Request (block_of 1 16384 16384)) ∷ []))
    ((6, entry 0 (Next 0) (Request (block_of 1 16384 16384))) ∷ [])

-- 6: rarest though in order
-- 8: in order though told off
abbrev in_order_told_off : Example
in_order_told_off = example (setting_of torrent_four_pieces 2 (rules 5 0))
    (enters 0 (true ∷ true ∷ true ∷ true ∷ [])
    (entry 1 Join Joined
    ∷ entry 1 (Bits (true ∷ true ∷ false ∷ false ∷ [])) (Noted true)
    ∷ entry 0 (InOrder true) Quiet
    ∷ entry 0 (Next 0) (Request (block_of 0 0 3))
    ∷ entry 1 (InOrder false) Quiet
    ∷ entry 0 (Next 0) (Request (block_of 2 0 3)) ∷ []))
    ((6, entry 0 (Next 0) (Request (block_of 2 0 3)))
    ∷ (8, entry 0 (Next 0) (Request (block_of 1 0 3))) ∷ [])

-- 7: idle though a low level is usable
abbrev peer_of_low_levels : Example
peer_of_low_levels = example (setting_of torrent_four_pieces 2 usual_rules)
    (entry 1 (Levels (7 ∷ 7 ∷ 1 ∷ 1 ∷ [])) Quiet
    ∷ enters 0 (true ∷ true ∷ true ∷ true ∷ [])
    (enters 1 (false ∷ false ∷ true ∷ true ∷ [])
    (entry 1 (Next 0) (Request (block_of 2 0 3))
    ∷ entry 0 (Next 0) (Request (block_of 0 0 3))
    ∷ entry 1 (Next 0) (Request (block_of 3 0 3))
    ∷ entry 0 (Next 0) (Request (block_of 1 0 3))
    ∷ entry 1 (Next 0) Idle ∷ [])))
    ((7, entry 1 (Next 0) Idle) ∷ [])

-- 4: piece of level 0 asked
-- 7: idle though wanted again
abbrev unwanted_by_level : Example
unwanted_by_level = example (setting_of torrent_two_pieces 1 usual_rules)
    (enters 0 (true ∷ true ∷ [])
    (entry 0 (Level 0 0) Quiet
    ∷ entry 0 (Next 0) (Request (block_of 1 0 3))
    ∷ entry 0 (Next 0) Idle
    ∷ entry 0 (Level 0 4) Quiet
    ∷ entry 0 (Next 0) (Request (block_of 0 0 3))
    ∷ entry 0 (Levels (0 ∷ 0 ∷ [])) Quiet
    ∷ entry 0 (Next 0) NothingLeft ∷ []))
    ((4, entry 0 (Next 0) (Request (block_of 0 0 3)))
    ∷ (7, entry 0 (Next 0) Idle) ∷ [])

-- 2: bits noted though of level 0
-- 6: nothing left though a level rose
abbrev levels_of_none : Example
levels_of_none = example (setting_of torrent_short_last 1 usual_rules)
    (entry 0 (Levels (0 ∷ 0 ∷ 0 ∷ [])) Quiet
    ∷ entry 0 Join Joined
    ∷ entry 0 (Bits (true ∷ true ∷ true ∷ [])) (Noted false)
    ∷ entry 0 Unchoke Quiet
    ∷ entry 0 (Next 0) NothingLeft
    ∷ entry 0 (Level 2 1) Quiet
    ∷ entry 0 (Next 0) (Request (block_of 2 0 1))
    ∷ entry 0 (Next 0) Idle ∷ [])
    ((2, entry 0 (Bits (true ∷ true ∷ true ∷ [])) (Noted true))
    ∷ (6, entry 0 (Next 0) NothingLeft) ∷ [])

-- 7: older level outlasts a want
-- 10: level below the usual asked first
abbrev want_after_levels : Example
want_after_levels = example (setting_of torrent_four_pieces 2 (rules 5 0))
    (entry 0 (Levels (7 ∷ 1 ∷ 1 ∷ 5 ∷ [])) Quiet
    ∷ enters 0 (true ∷ true ∷ true ∷ true ∷ [])
    (entry 1 Join Joined
    ∷ entry 1 (Bits (false ∷ false ∷ false ∷ true ∷ [])) (Noted true)
    ∷ entry 0 (Want (false ∷ true ∷ true ∷ true ∷ [])) Quiet
    ∷ entry 0 (Next 0) (Request (block_of 1 0 3))
    ∷ entry 0 (Next 0) (Request (block_of 2 0 3))
    ∷ entry 0 (Level 0 3) Quiet
    ∷ entry 0 (Next 0) (Request (block_of 3 0 3))
    ∷ entry 0 (Next 0) (Request (block_of 0 0 3)) ∷ []))
    ((7, entry 0 (Next 0) (Request (block_of 3 0 3)))
    ∷ (10, entry 0 (Next 0) (Request (block_of 0 0 3))) ∷ [])

-- 2: bits late by a level
-- 4: level from before the bits forgotten
abbrev level_before_the_bits : Example
level_before_the_bits = example (setting_of torrent_two_pieces 1 usual_rules)
    (entry 0 Join Joined
    ∷ entry 0 (Level 1 7) Quiet
    ∷ entry 0 (Bits (true ∷ true ∷ [])) (Noted true)
    ∷ entry 0 Unchoke Quiet
    ∷ entry 0 (Next 0) (Request (block_of 1 0 3))
    ∷ entry 0 (Next 0) (Request (block_of 0 0 3)) ∷ [])
    ((2, entry 0 (Bits (true ∷ true ∷ [])) (Refused LateBits))
    ∷ (4, entry 0 (Next 0) (Request (block_of 0 0 3))) ∷ [])

-- 11: endgame though a low level is unasked
abbrev endgame_of_all_levels : Example
endgame_of_all_levels = example (setting_of torrent_two_pieces 3 usual_rules)
    (entry 2 (Levels (7 ∷ 1 ∷ [])) Quiet
    ∷ enters 0 (true ∷ true ∷ [])
    (enters 1 (true ∷ true ∷ [])
    (enters 2 (true ∷ true ∷ [])
    (entry 0 (Next 0) (Request (block_of 0 0 3))
    ∷ entry 1 (Next 0) (Request (block_of 1 0 3))
    ∷ entry 2 (Next 0) (Request (block_of 1 0 3))
    ∷ entry 2 (Next 0) (Request (block_of 0 0 3)) ∷ []))))
    ((11, entry 1 (Next 0) (Request (block_of 0 0 3))) ∷ [])

-- 5: asked block of level 0 dropped
abbrev asked_outlasts_its_level : Example
asked_outlasts_its_level = example (setting_of torrent_two_pieces 1 usual_rules)
    (enters 0 (true ∷ true ∷ [])
    (entry 0 (Next 0) (Request (block_of 0 0 3))
    ∷ entry 0 (Level 0 0) Quiet
    ∷ entry 0 (Arrived 0 0 (97 ∷ 98 ∷ 99 ∷ [])) Completed
    ∷ entry 0 (Settle 0 (97 ∷ 98 ∷ 99 ∷ [])) Had
    ∷ entry 0 (Next 0) (Request (block_of 1 0 3)) ∷ []))
    ((5, entry 0 (Arrived 0 0 (97 ∷ 98 ∷ 99 ∷ [])) Dropped) ∷ [])

-- 0: level of no piece taken
-- 1: level 8 taken
-- 3: levels of a wrong count taken
-- 5: levels with an 8 taken
-- 6: levels refused for a later cause
-- 8: level of a stranger refused
-- 9: order of a stranger refused
abbrev refusals_of_levels : Example
refusals_of_levels = example (setting_of torrent_short_last 2 usual_rules)
    (entry 0 (Level 3 4) (Refused NoSuchPiece)
    ∷ entry 0 (Level 0 8) (Refused WrongLevel)
    ∷ entry 0 (Level 9 9) (Refused NoSuchPiece)
    ∷ entry 1 (Levels (4 ∷ 4 ∷ [])) (Refused WrongCount)
    ∷ entry 1 (Levels (4 ∷ 4 ∷ 4 ∷ 4 ∷ [])) (Refused WrongCount)
    ∷ entry 1 (Levels (4 ∷ 8 ∷ 4 ∷ [])) (Refused WrongLevel)
    ∷ entry 1 (Levels (8 ∷ 8 ∷ [])) (Refused WrongCount)
    ∷ entry 1 (Levels (4 ∷ 7 ∷ 0 ∷ [])) Quiet
    ∷ entry 1 (Level 2 7) Quiet
    ∷ entry 0 (InOrder true) Quiet
    ∷ entry 0 (InOrder false) Quiet
    ∷ enters 0 (true ∷ true ∷ true ∷ [])
    (entry 0 (Next 0) (Request (block_of 2 0 1))
    ∷ entry 0 (Next 0) (Request (block_of 1 0 3))
    ∷ entry 0 (Next 0) (Request (block_of 0 0 3)) ∷ []))
    ((0, entry 0 (Level 3 4) Quiet)
    ∷ (1, entry 0 (Level 0 8) Quiet)
    ∷ (3, entry 1 (Levels (4 ∷ 4 ∷ [])) Quiet)
    ∷ (5, entry 1 (Levels (4 ∷ 8 ∷ 4 ∷ [])) Quiet)
    ∷ (6, entry 1 (Levels (8 ∷ 8 ∷ [])) (Refused WrongLevel))
    ∷ (8, entry 1 (Level 2 7) (Refused NotJoined))
    ∷ (9, entry 0 (InOrder true) (Refused NotJoined)) ∷ [])

-- 11: rarer piece begun though begun ones come first
abbrev any_begun_piece_goes_on : Example
any_begun_piece_goes_on = example (setting_of torrent_four_pairs 3 (rules 5 0))
    (enters 0 (true ∷ true ∷ true ∷ true ∷ [])
    (enters 1 (true ∷ false ∷ false ∷ false ∷ [])
    (enters 2 (true ∷ true ∷ false ∷ false ∷ [])
    (entry 2 (Next 1) (Request (block_of 1 0 16384))
    ∷ entry 1 (Next 0) (Request (block_of 0 0 16384))
    ∷ entry 0 (Next 2) (Request (block_of 0 16384 16384))
    ∷ entry 0 (Next 2) (Request (block_of 1 16384 16384)) ∷ []))))
    ((11, entry 0 (Next 2) (Request (block_of 2 0 16384))) ∷ [])

-- 7: begun piece continued though a rarer one is unbegun
-- 8: piece begun though more are open than may be
-- 8: commoner open piece continued
-- 9: unbegun piece started though a begun one is as rare
abbrev rarest_while_few_are_open : Example
rarest_while_few_are_open = example (setting_of torrent_four_pairs 2 (open_rules 5 0 1024 64 1))
    (enters 0 (true ∷ true ∷ true ∷ true ∷ [])
    (enters 1 (true ∷ true ∷ false ∷ false ∷ [])
    (entry 1 (Next 0) (Request (block_of 0 0 16384))
    ∷ entry 0 (Next 2) (Request (block_of 2 0 16384))
    ∷ entry 0 (Next 3) (Request (block_of 2 16384 16384))
    ∷ entry 1 (Next 1) (Request (block_of 0 16384 16384)) ∷ [])))
    ((7, entry 0 (Next 2) (Request (block_of 0 16384 16384)))
    ∷ (8, entry 0 (Next 3) (Request (block_of 3 0 16384)))
    ∷ (8, entry 0 (Next 3) (Request (block_of 0 16384 16384)))
    ∷ (9, entry 1 (Next 1) (Request (block_of 1 0 16384))) ∷ [])

-- 11: as many open as may be are too many
-- 12: as rare piece begun though more are open
abbrev as_many_open_as_may_be : Example
as_many_open_as_may_be = example (setting_of torrent_four_pairs 3 (open_rules 5 0 1024 64 2))
    (enters 0 (true ∷ true ∷ true ∷ true ∷ [])
    (enters 1 (true ∷ false ∷ false ∷ false ∷ [])
    (enters 2 (true ∷ true ∷ false ∷ false ∷ [])
    (entry 2 (Next 1) (Request (block_of 1 0 16384))
    ∷ entry 1 (Next 0) (Request (block_of 0 0 16384))
    ∷ entry 0 (Next 2) (Request (block_of 2 0 16384))
    ∷ entry 0 (Next 3) (Request (block_of 2 16384 16384)) ∷ []))))
    ((11, entry 0 (Next 2) (Request (block_of 1 16384 16384)))
    ∷ (12, entry 0 (Next 3) (Request (block_of 3 0 16384))) ∷ [])

-- 11: open piece of the least number continued
-- 11: rarer piece begun though two are open
-- 12: last open piece continued though a rarer one is unbegun
abbrev rarest_of_the_open_goes_on : Example
rarest_of_the_open_goes_on = example (setting_of torrent_four_pairs 3 (open_rules 5 0 1024 64 1))
    (enters 0 (true ∷ true ∷ true ∷ true ∷ [])
    (enters 1 (true ∷ false ∷ false ∷ false ∷ [])
    (enters 2 (true ∷ true ∷ false ∷ false ∷ [])
    (entry 2 (Next 1) (Request (block_of 1 0 16384))
    ∷ entry 1 (Next 0) (Request (block_of 0 0 16384))
    ∷ entry 0 (Next 2) (Request (block_of 1 16384 16384))
    ∷ entry 0 (Next 2) (Request (block_of 2 0 16384)) ∷ []))))
    ((11, entry 0 (Next 2) (Request (block_of 0 16384 16384)))
    ∷ (11, entry 0 (Next 2) (Request (block_of 2 0 16384)))
    ∷ (12, entry 0 (Next 2) (Request (block_of 0 16384 16384))) ∷ [])

-- 6: rarer piece begun though none is had
abbrev first_piece_before_rarity : Example
first_piece_before_rarity = example (setting_of torrent_four_pairs 2 (open_rules 5 1 1024 64 8))
    (enters 0 (true ∷ true ∷ true ∷ true ∷ [])
    (entry 1 Join Joined
    ∷ entry 1 (Bits (true ∷ false ∷ false ∷ false ∷ [])) (Noted true)
    ∷ entry 0 (Next 0) (Request (block_of 0 0 16384))
    ∷ entry 0 (Next 0) (Request (block_of 0 16384 16384))
    ∷ entry 0 (Next 1) (Request (block_of 1 0 16384)) ∷ []))
    ((6, entry 0 (Next 0) (Request (block_of 1 0 16384))) ∷ [])

-- 11: commoner begun piece continued at random
-- 11: third piece begun at random
abbrev rarest_of_the_begun_at_random : Example
rarest_of_the_begun_at_random = example (setting_of torrent_four_pairs 3 (open_rules 5 2 1024 64 8))
    (enters 0 (true ∷ true ∷ true ∷ true ∷ [])
    (enters 1 (true ∷ false ∷ false ∷ false ∷ [])
    (enters 2 (true ∷ true ∷ false ∷ false ∷ [])
    (entry 2 (Next 1) (Request (block_of 1 0 16384))
    ∷ entry 1 (Next 0) (Request (block_of 0 0 16384))
    ∷ entry 0 (Next 3) (Request (block_of 1 16384 16384))
    ∷ entry 0 (Next 3) (Request (block_of 0 16384 16384))
    ∷ entry 0 (Next 3) (Request (block_of 3 0 16384)) ∷ []))))
    ((11, entry 0 (Next 3) (Request (block_of 0 16384 16384)))
    ∷ (11, entry 0 (Next 3) (Request (block_of 3 0 16384))) ∷ [])

-- 8: rarer piece begun before enough are had
-- 10: begun piece continued though enough are had
abbrev rarest_once_enough_are_had : Example
rarest_once_enough_are_had = example (setting_of torrent_two_pairs_and_a_byte 2 (open_rules 5 1 1024 64 8))
    (enters 0 (true ∷ true ∷ true ∷ [])
    (enters 1 (true ∷ false ∷ false ∷ [])
    (entry 0 (Next 2) (Request (block_of 2 0 1))
    ∷ entry 1 (Next 0) (Request (block_of 0 0 16384))
    ∷ entry 0 (Arrived 2 0 (97 ∷ [])) Completed
    ∷ entry 0 (Settle 2 (97 ∷ [])) Had
    ∷ entry 0 (Next 0) (Request (block_of 1 0 16384)) ∷ [])))
    ((8, entry 0 (Next 0) (Request (block_of 1 0 16384)))
    ∷ (10, entry 0 (Next 0) (Request (block_of 0 16384 16384))) ∷ [])

-- 11: open counted on one level
abbrev open_counted_over_all_levels : Example
open_counted_over_all_levels = example (setting_of torrent_four_pairs 2 (open_rules 5 0 1024 64 1))
    (enters 0 (true ∷ true ∷ true ∷ true ∷ [])
    (enters 1 (true ∷ false ∷ false ∷ true ∷ [])
    (entry 1 (Next 0) (Request (block_of 0 0 16384))
    ∷ entry 0 (Next 2) (Request (block_of 2 0 16384))
    ∷ entry 0 (Level 3 5) Quiet
    ∷ entry 1 (Next 0) (Request (block_of 3 0 16384))
    ∷ entry 0 (Level 1 5) Quiet
    ∷ entry 0 (Next 0) (Request (block_of 3 16384 16384)) ∷ [])))
    ((11, entry 0 (Next 0) (Request (block_of 1 0 16384))) ∷ [])

-- 9: wholly requested piece counted as open
abbrev wholly_requested_pieces_are_not_open : Example
wholly_requested_pieces_are_not_open = example (setting_of torrent_four_pairs 2 (open_rules 5 0 1024 64 1))
    (enters 0 (true ∷ true ∷ true ∷ true ∷ [])
    (enters 1 (true ∷ true ∷ false ∷ false ∷ [])
    (entry 1 (Next 0) (Request (block_of 0 0 16384))
    ∷ entry 1 (Next 1) (Request (block_of 0 16384 16384))
    ∷ entry 1 (Next 1) (Request (block_of 1 0 16384))
    ∷ entry 0 (Next 2) (Request (block_of 2 0 16384)) ∷ [])))
    ((9, entry 0 (Next 2) (Request (block_of 1 16384 16384))) ∷ [])

-- 10: released block left out of the count
abbrev released_block_opens_its_piece : Example
released_block_opens_its_piece = example (setting_of torrent_four_pairs 2 (open_rules 5 0 1024 64 1))
    (enters 0 (true ∷ true ∷ true ∷ true ∷ [])
    (enters 1 (true ∷ true ∷ false ∷ false ∷ [])
    (entry 1 (Next 0) (Request (block_of 0 0 16384))
    ∷ entry 1 (Next 1) (Request (block_of 0 16384 16384))
    ∷ entry 1 (Next 1) (Request (block_of 1 0 16384))
    ∷ entry 1 (Release 0 16384) Quiet
    ∷ entry 0 (Next 2) (Request (block_of 0 16384 16384)) ∷ [])))
    ((10, entry 0 (Next 2) (Request (block_of 2 0 16384))) ∷ [])

-- 8: held block left out of the count
abbrev held_block_opens_its_piece : Example
held_block_opens_its_piece = example (setting_of torrent_four_pairs 2 (open_rules 5 0 1024 64 1))
    (enters 0 (true ∷ true ∷ true ∷ true ∷ [])
    (enters 1 (true ∷ true ∷ false ∷ false ∷ [])
    (entry 1 (Next 1) (Request (block_of 1 0 16384))
    ∷ entry 1 (Arrived 0 0 (replicate 16384 97)) Stored
    ∷ entry 0 (Next 2) (Request (block_of 0 16384 16384)) ∷ [])))
    ((8, entry 0 (Next 2) (Request (block_of 2 0 16384))) ∷ [])

-- 9: held piece counted as open
abbrev held_pieces_are_not_open : Example
held_pieces_are_not_open = example (setting_of torrent_four_pairs 2 (open_rules 5 0 1024 64 1))
    (enters 0 (true ∷ true ∷ true ∷ true ∷ [])
    (enters 1 (true ∷ true ∷ false ∷ false ∷ [])
    (entry 1 (Arrived 0 0 (replicate 16384 97)) Stored
    ∷ entry 1 (Arrived 0 16384 (replicate 16384 97)) Completed
    ∷ entry 1 (Next 1) (Request (block_of 1 0 16384))
    ∷ entry 0 (Next 2) (Request (block_of 2 0 16384)) ∷ [])))
    ((9, entry 0 (Next 2) (Request (block_of 1 16384 16384))) ∷ [])

-- 12: unwanted piece counted as open
abbrev unwanted_pieces_are_not_open : Example
unwanted_pieces_are_not_open = example (setting_of torrent_four_pairs 3 (open_rules 5 0 1024 64 1))
    (enters 0 (true ∷ true ∷ true ∷ true ∷ [])
    (enters 1 (true ∷ false ∷ false ∷ false ∷ [])
    (enters 2 (true ∷ true ∷ false ∷ false ∷ [])
    (entry 2 (Next 1) (Request (block_of 1 0 16384))
    ∷ entry 1 (Next 0) (Request (block_of 0 0 16384))
    ∷ entry 1 (Level 0 0) Quiet
    ∷ entry 0 (Next 2) (Request (block_of 2 0 16384)) ∷ []))))
    ((12, entry 0 (Next 2) (Request (block_of 1 16384 16384))) ∷ [])

-- 13: commoner piece begun though many are open
-- 13: idle though no open piece is shown
abbrev none_of_the_open_is_shown : Example
none_of_the_open_is_shown = example (setting_of torrent_four_pairs 4 (open_rules 5 0 1024 64 1))
    (enters 0 (true ∷ false ∷ false ∷ false ∷ [])
    (enters 1 (true ∷ true ∷ false ∷ false ∷ [])
    (enters 2 (false ∷ false ∷ true ∷ true ∷ [])
    (entry 3 Join Joined
    ∷ entry 3 (Bits (false ∷ false ∷ false ∷ true ∷ [])) (Noted true)
    ∷ entry 1 (Next 1) (Request (block_of 1 0 16384))
    ∷ entry 0 (Next 0) (Request (block_of 0 0 16384))
    ∷ entry 2 (Next 3) (Request (block_of 2 0 16384)) ∷ []))))
    ((13, entry 2 (Next 3) (Request (block_of 3 0 16384)))
    ∷ (13, entry 2 (Next 3) Idle) ∷ [])

-- 9: open piece continued though in order
abbrev in_order_however_many_are_open : Example
in_order_however_many_are_open = example (setting_of torrent_four_pairs 2 (open_rules 5 0 1024 64 1))
    (enters 0 (true ∷ true ∷ true ∷ true ∷ [])
    (enters 1 (false ∷ false ∷ true ∷ true ∷ [])
    (entry 1 (Next 2) (Request (block_of 2 0 16384))
    ∷ entry 0 (Next 1) (Request (block_of 1 0 16384))
    ∷ entry 0 (InOrder true) Quiet
    ∷ entry 0 (Next 3) (Request (block_of 0 0 16384))
    ∷ entry 0 (Next 3) (Request (block_of 0 16384 16384))
    ∷ entry 0 (Next 3) (Request (block_of 1 16384 16384)) ∷ [])))
    ((9, entry 0 (Next 3) (Request (block_of 1 16384 16384))) ∷ [])

-- 8: second peer idle though it has few
-- 9: second block of one that has as many as may be
abbrev endgame_at_few : Example
endgame_at_few = example (setting_of torrent_two_pieces 2 (ending_rules 5 1 1024 64 0 1 false))
    (enters 0 (true ∷ true ∷ [])
    (enters 1 (true ∷ true ∷ [])
    (entry 0 (Next 0) (Request (block_of 0 0 3))
    ∷ entry 0 (Next 0) (Request (block_of 1 0 3))
    ∷ entry 1 (Next 0) (Request (block_of 0 0 3))
    ∷ entry 1 (Next 0) Idle
    ∷ entry 0 (Arrived 0 0 (97 ∷ 98 ∷ 99 ∷ [])) Completed
    ∷ entry 1 (Next 0) (Cancel (block_of 0 0 3))
    ∷ entry 1 (Next 0) (Request (block_of 1 0 3)) ∷ [])))
    ((8, entry 1 (Next 0) Idle)
    ∷ (9, entry 1 (Next 0) (Request (block_of 1 0 3))) ∷ [])

-- 7: second peer asked though none may be
abbrev endgame_at_none : Example
endgame_at_none = example (setting_of torrent_one_piece 2 (ending_rules 5 1 1024 64 0 0 false))
    (enters 0 (true ∷ [])
    (enters 1 (true ∷ [])
    (entry 0 (Next 0) (Request (block_of 0 0 3))
    ∷ entry 1 (Next 0) Idle
    ∷ entry 0 (Release 0 0) Quiet
    ∷ entry 1 (Next 0) (Request (block_of 0 0 3)) ∷ [])))
    ((7, entry 1 (Next 0) (Request (block_of 0 0 3))) ∷ [])

-- 7: second peer asked though an unshown piece is wanted
abbrev unshown_piece_holds_up_endgame : Example
unshown_piece_holds_up_endgame = example (setting_of torrent_two_pieces 2 usual_rules)
    (enters 0 (true ∷ false ∷ [])
    (enters 1 (true ∷ false ∷ [])
    (entry 0 (Next 0) (Request (block_of 0 0 3))
    ∷ entry 1 (Next 0) Idle ∷ [])))
    ((7, entry 1 (Next 0) (Request (block_of 0 0 3))) ∷ [])

-- 7: idle though all that is shown is asked
abbrev endgame_over_what_is_shown : Example
endgame_over_what_is_shown = example (setting_of torrent_two_pieces 2 (ending_rules 5 1 1024 64 0 4096 true))
    (enters 0 (true ∷ false ∷ [])
    (enters 1 (true ∷ false ∷ [])
    (entry 0 (Next 0) (Request (block_of 0 0 3))
    ∷ entry 1 (Next 0) (Request (block_of 0 0 3)) ∷ [])))
    ((7, entry 1 (Next 0) Idle) ∷ [])

-- 9: second peer asked though a shown block is unasked
-- 11: idle though nobody shows the rest
abbrev shown_piece_holds_up_endgame : Example
shown_piece_holds_up_endgame = example (setting_of torrent_two_pieces 3 (ending_rules 5 1 1024 64 0 4096 true))
    (enters 0 (true ∷ false ∷ [])
    (enters 1 (true ∷ false ∷ [])
    (entry 2 Join Joined
    ∷ entry 2 (Bits (false ∷ true ∷ [])) (Noted true)
    ∷ entry 0 (Next 0) (Request (block_of 0 0 3))
    ∷ entry 1 (Next 0) Idle
    ∷ entry 2 Leave Quiet
    ∷ entry 1 (Next 0) (Request (block_of 0 0 3)) ∷ [])))
    ((9, entry 1 (Next 0) (Request (block_of 0 0 3)))
    ∷ (11, entry 1 (Next 0) Idle) ∷ [])

-- 13: second peer asked though a shown low level is unasked
abbrev lower_level_is_awaited_too : Example
lower_level_is_awaited_too = example (setting_of torrent_four_pieces 3 (ending_rules 5 1 1024 64 0 4096 true))
    (entry 2 (Levels (4 ∷ 7 ∷ 1 ∷ 0 ∷ [])) Quiet
    ∷ enters 0 (true ∷ true ∷ false ∷ false ∷ [])
    (enters 1 (true ∷ false ∷ false ∷ false ∷ [])
    (entry 0 (Next 0) (Request (block_of 1 0 3))
    ∷ entry 1 (Next 0) (Request (block_of 0 0 3))
    ∷ entry 0 (Next 0) (Request (block_of 0 0 3))
    ∷ entry 2 Join Joined
    ∷ entry 2 (Bits (false ∷ false ∷ true ∷ true ∷ [])) (Noted true)
    ∷ entry 1 (Have 1) (Noted true)
    ∷ entry 1 (Next 0) Idle
    ∷ entry 2 Unchoke Quiet
    ∷ entry 2 (Next 0) (Request (block_of 2 0 3))
    ∷ entry 1 (Next 0) (Request (block_of 1 0 3)) ∷ [])))
    ((13, entry 1 (Next 0) (Request (block_of 1 0 3))) ∷ [])

-- 5: block beyond the reach
-- 7: next level beyond the reach
-- 7: nothing left though it is beyond the reach
-- 9: idle though the reach rose
abbrev slow_peer_gets_low_levels : Example
slow_peer_gets_low_levels = example (setting_of torrent_four_pieces 2 usual_rules)
    (entry 1 (Levels (7 ∷ 5 ∷ 4 ∷ 2 ∷ [])) Quiet
    ∷ enters 0 (true ∷ true ∷ true ∷ true ∷ [])
    (entry 0 (Reach 4) Quiet
    ∷ entry 0 (Next 0) (Request (block_of 2 0 3))
    ∷ entry 0 (Next 0) (Request (block_of 3 0 3))
    ∷ entry 0 (Next 0) Idle
    ∷ entry 0 (Reach 5) Quiet
    ∷ entry 0 (Next 0) (Request (block_of 1 0 3))
    ∷ entry 0 (Reach 7) Quiet
    ∷ entry 0 (Next 0) (Request (block_of 0 0 3)) ∷ []))
    ((5, entry 0 (Next 0) (Request (block_of 0 0 3)))
    ∷ (7, entry 0 (Next 0) (Request (block_of 1 0 3)))
    ∷ (7, entry 0 (Next 0) NothingLeft)
    ∷ (9, entry 0 (Next 0) Idle) ∷ [])

-- 10: second peer asked beyond its reach
abbrev reach_in_endgame : Example
reach_in_endgame = example (setting_of torrent_two_pieces 3 usual_rules)
    (entry 2 (Levels (7 ∷ 4 ∷ [])) Quiet
    ∷ enters 0 (true ∷ true ∷ [])
    (enters 1 (true ∷ true ∷ [])
    (entry 1 (Reach 4) Quiet
    ∷ entry 0 (Next 0) (Request (block_of 0 0 3))
    ∷ entry 0 (Next 0) (Request (block_of 1 0 3))
    ∷ entry 1 (Next 0) (Request (block_of 1 0 3))
    ∷ entry 1 (Next 0) Idle ∷ [])))
    ((10, entry 1 (Next 0) (Request (block_of 0 0 3))) ∷ [])

-- 4: request before the reach goes
-- 9: reach of the peer before
abbrev reach_goes_with_its_peer : Example
reach_goes_with_its_peer = example (setting_of torrent_two_pieces 1 usual_rules)
    (entry 0 Join Joined
    ∷ entry 0 (Reach 3) Quiet
    ∷ entry 0 (Bits (true ∷ true ∷ [])) (Noted true)
    ∷ entry 0 Unchoke Quiet
    ∷ entry 0 (Next 0) Idle
    ∷ entry 0 Leave Quiet
    ∷ enters 0 (true ∷ true ∷ [])
    (entry 0 (Next 0) (Request (block_of 0 0 3)) ∷ []))
    ((4, entry 0 (Next 0) (Request (block_of 0 0 3)))
    ∷ (9, entry 0 (Next 0) Idle) ∷ [])

-- 0: reach of a stranger taken
-- 3: reach 8 taken
-- 6: order from 9 taken
-- 7: order from of a stranger refused
abbrev refusals_of_reach_and_order : Example
refusals_of_reach_and_order = example (setting_of torrent_short_last 2 usual_rules)
    (entry 0 (Reach 3) (Refused NotJoined)
    ∷ entry 0 (Reach 9) (Refused NotJoined)
    ∷ entry 0 Join Joined
    ∷ entry 0 (Reach 8) (Refused WrongLevel)
    ∷ entry 0 (Reach 0) Quiet
    ∷ entry 0 (Reach 7) Quiet
    ∷ entry 1 (InOrderFrom 9) (Refused WrongLevel)
    ∷ entry 1 (InOrderFrom 8) Quiet
    ∷ entry 1 (InOrderFrom 0) Quiet ∷ [])
    ((0, entry 0 (Reach 3) Quiet)
    ∷ (3, entry 0 (Reach 8) Quiet)
    ∷ (6, entry 1 (InOrderFrom 9) Quiet)
    ∷ (7, entry 1 (InOrderFrom 8) (Refused NotJoined)) ∷ [])

-- 7: rarest though in the window
-- 9: in order though below the window
abbrev window_comes_in_order : Example
window_comes_in_order = example (setting_of torrent_four_pieces 2 (rules 5 0))
    (entry 1 (InOrderFrom 5) Quiet
    ∷ entry 0 (Levels (4 ∷ 4 ∷ 5 ∷ 5 ∷ [])) Quiet
    ∷ enters 0 (true ∷ true ∷ true ∷ true ∷ [])
    (entry 1 Join Joined
    ∷ entry 1 (Bits (true ∷ false ∷ true ∷ false ∷ [])) (Noted true)
    ∷ entry 0 (Next 0) (Request (block_of 2 0 3))
    ∷ entry 0 (Next 0) (Request (block_of 3 0 3))
    ∷ entry 0 (Next 0) (Request (block_of 1 0 3))
    ∷ entry 0 (Next 0) (Request (block_of 0 0 3)) ∷ []))
    ((7, entry 0 (Next 0) (Request (block_of 3 0 3)))
    ∷ (9, entry 0 (Next 0) (Request (block_of 0 0 3))) ∷ [])

-- 7: window outlasts an order
-- 9: least piece though none comes in order
abbrev window_told_anew : Example
window_told_anew = example (setting_of torrent_four_pieces 2 (rules 5 0))
    (enters 0 (true ∷ true ∷ true ∷ true ∷ [])
    (entry 1 Join Joined
    ∷ entry 1 (Bits (true ∷ true ∷ false ∷ false ∷ [])) (Noted true)
    ∷ entry 1 (InOrderFrom 5) Quiet
    ∷ entry 0 (InOrder true) Quiet
    ∷ entry 0 (Next 3) (Request (block_of 0 0 3))
    ∷ entry 0 (InOrderFrom 8) Quiet
    ∷ entry 0 (Next 3) (Request (block_of 3 0 3)) ∷ []))
    ((7, entry 0 (Next 3) (Request (block_of 3 0 3)))
    ∷ (9, entry 0 (Next 3) (Request (block_of 1 0 3))) ∷ [])

-- 8: lacked piece asked again
-- 11: lacked piece counts as begun
-- 13: idle though both blocks were freed
-- 15: second peer asked for what it lacks
abbrev lacked_is_asked_elsewhere : Example
lacked_is_asked_elsewhere = example (setting_of torrent_two_blocks 2 (rules 3 1))
    (enters 0 (true ∷ true ∷ [])
    (entry 0 (Next 0) (Request (block_of 0 0 16384))
    ∷ entry 0 (Next 0) (Request (block_of 0 16384 16384))
    ∷ entry 0 (Next 0) (Request (block_of 1 0 16384))
    ∷ entry 0 (Next 0) PipeFull
    ∷ entry 0 (Lack 0) (Noted true)
    ∷ enters 1 (true ∷ true ∷ [])
    (entry 1 (Next 0) (Request (block_of 1 16384 16384))
    ∷ entry 1 (Next 0) (Request (block_of 0 0 16384))
    ∷ entry 1 (Next 0) (Request (block_of 0 16384 16384))
    ∷ entry 0 (Next 0) (Request (block_of 1 16384 16384))
    ∷ entry 0 (Next 0) Idle
    ∷ entry 0 (Arrived 0 0 (replicate 16384 97)) Stored
    ∷ entry 1 (Next 0) (Cancel (block_of 0 0 16384)) ∷ [])))
    ((8, entry 0 (Next 0) (Request (block_of 0 0 16384)))
    ∷ (11, entry 1 (Next 0) (Request (block_of 0 0 16384)))
    ∷ (13, entry 1 (Next 0) Idle)
    ∷ (15, entry 0 (Next 0) (Request (block_of 0 0 16384))) ∷ [])

-- 10: piece counted for peers that lack it
abbrev lack_makes_another_piece_rarest : Example
lack_makes_another_piece_rarest = example (setting_of torrent_short_last 3 (rules 5 0))
    (enters 0 (true ∷ true ∷ true ∷ [])
    (entry 1 Join Joined
    ∷ entry 1 (Bits (true ∷ true ∷ false ∷ [])) (Noted true)
    ∷ entry 2 Join Joined
    ∷ entry 2 (Bits (true ∷ false ∷ false ∷ [])) (Noted true)
    ∷ entry 0 (Next 1) (Request (block_of 2 0 1))
    ∷ entry 1 (Lack 0) (Noted true)
    ∷ entry 2 (Lack 0) (Noted false)
    ∷ entry 0 (Next 1) (Request (block_of 0 0 3)) ∷ []))
    ((10, entry 0 (Next 1) (Request (block_of 1 0 3))) ∷ [])

-- 4: interesting though it lacks the only piece
-- 5: idle though it lacks the only piece
-- 7: nothing left though it has the piece again
abbrev lack_of_the_only_piece : Example
lack_of_the_only_piece = example (setting_of torrent_one_piece 1 usual_rules)
    (enters 0 (true ∷ [])
    (entry 0 (Next 0) (Request (block_of 0 0 3))
    ∷ entry 0 (Lack 0) (Noted false)
    ∷ entry 0 (Next 0) NothingLeft
    ∷ entry 0 (Have 0) (Noted true)
    ∷ entry 0 (Next 0) (Request (block_of 0 0 3)) ∷ []))
    ((4, entry 0 (Lack 0) (Noted true))
    ∷ (5, entry 0 (Next 0) Idle)
    ∷ (7, entry 0 (Next 0) NothingLeft) ∷ [])

-- 15: cancel due for a piece that was lacked before
-- 16: cancel forgotten by a lack
abbrev cancel_outlasts_a_lack : Example
cancel_outlasts_a_lack = example (setting_of torrent_one_piece 3 usual_rules)
    (enters 0 (true ∷ [])
    (enters 1 (true ∷ [])
    (entry 0 (Next 0) (Request (block_of 0 0 3))
    ∷ entry 1 (Next 0) (Request (block_of 0 0 3))
    ∷ enters 2 (true ∷ [])
    (entry 2 (Next 0) (Request (block_of 0 0 3))
    ∷ entry 1 (Lack 0) (Noted false)
    ∷ entry 0 (Arrived 0 0 (97 ∷ 98 ∷ 99 ∷ [])) Completed
    ∷ entry 2 (Lack 0) (Noted false)
    ∷ entry 1 (Next 0) NothingLeft
    ∷ entry 2 (Next 0) (Cancel (block_of 0 0 3))
    ∷ entry 2 (Next 0) NothingLeft ∷ []))))
    ((15, entry 1 (Next 0) (Cancel (block_of 0 0 3)))
    ∷ (16, entry 2 (Next 0) NothingLeft) ∷ [])

-- 11: idle though the last peer lacks the rest
abbrev lack_begins_endgame : Example
lack_begins_endgame = example (setting_of torrent_two_pieces 3 (ending_rules 5 1 1024 64 0 4096 true))
    (enters 0 (true ∷ false ∷ [])
    (enters 1 (true ∷ false ∷ [])
    (entry 2 Join Joined
    ∷ entry 2 (Bits (false ∷ true ∷ [])) (Noted true)
    ∷ entry 0 (Next 0) (Request (block_of 0 0 3))
    ∷ entry 1 (Next 0) Idle
    ∷ entry 2 (Lack 1) (Noted false)
    ∷ entry 1 (Next 0) (Request (block_of 0 0 3)) ∷ [])))
    ((11, entry 1 (Next 0) Idle) ∷ [])

-- 0: lack of a stranger taken
-- 3: lack of no piece taken
-- 4: bitfield late by a refused lack
-- 5: lack of an unshown piece refused
-- 8: bitfield after a lack taken
abbrev refusals_of_lack : Example
refusals_of_lack = example (setting_of torrent_short_last 2 usual_rules)
    (entry 0 (Lack 0) (Refused NotJoined)
    ∷ entry 0 (Lack 9) (Refused NotJoined)
    ∷ entry 0 Join Joined
    ∷ entry 0 (Lack 3) (Refused NoSuchPiece)
    ∷ entry 0 (Bits (true ∷ false ∷ false ∷ [])) (Noted true)
    ∷ entry 0 (Lack 2) (Noted true)
    ∷ entry 1 Join Joined
    ∷ entry 1 (Lack 2) (Noted false)
    ∷ entry 1 (Bits (true ∷ true ∷ true ∷ [])) (Refused LateBits) ∷ [])
    ((0, entry 0 (Lack 0) (Noted false))
    ∷ (3, entry 0 (Lack 3) (Noted false))
    ∷ (4, entry 0 (Bits (true ∷ false ∷ false ∷ [])) (Refused LateBits))
    ∷ (5, entry 0 (Lack 2) (Refused NoSuchPiece))
    ∷ (8, entry 1 (Bits (true ∷ true ∷ true ∷ [])) (Noted true)) ∷ [])

-- 10: cancel of what its own peer brought late
-- 11: no cancel since the late peer brought it
abbrev late_comes_after_all : Example
late_comes_after_all = example (setting_of torrent_one_piece 2 usual_rules)
    (enters 0 (true ∷ [])
    (enters 1 (true ∷ [])
    (entry 0 (Next 0) (Request (block_of 0 0 3))
    ∷ entry 0 (Late 0 0) Quiet
    ∷ entry 1 (Next 0) (Request (block_of 0 0 3))
    ∷ entry 0 (Arrived 0 0 (97 ∷ 98 ∷ 99 ∷ [])) Completed
    ∷ entry 0 (Next 0) Idle
    ∷ entry 1 (Next 0) (Cancel (block_of 0 0 3)) ∷ [])))
    ((10, entry 0 (Next 0) (Cancel (block_of 0 0 3)))
    ∷ (11, entry 1 (Next 0) Idle) ∷ [])

-- 5: late block asked again of a lone peer
-- 6: idle at a lone peer with a spent piece
-- 6: spent piece continued
-- 9: late block dropped
abbrev late_at_a_lone_peer : Example
late_at_a_lone_peer = example (setting_of torrent_two_blocks 1 usual_rules)
    (enters 0 (true ∷ true ∷ [])
    (entry 0 (Next 0) (Request (block_of 0 0 16384))
    ∷ entry 0 (Late 0 0) Quiet
    ∷ entry 0 (Next 0) (Request (block_of 0 16384 16384))
    ∷ entry 0 (Next 1) (Request (block_of 1 0 16384))
    ∷ entry 0 (Next 0) (Request (block_of 1 16384 16384))
    ∷ entry 0 (Next 0) Idle
    ∷ entry 0 (Arrived 0 0 (replicate 16384 97)) Stored ∷ []))
    ((5, entry 0 (Next 0) (Request (block_of 0 0 16384)))
    ∷ (6, entry 0 (Next 1) Idle)
    ∷ (6, entry 0 (Next 1) (Request (block_of 0 0 16384)))
    ∷ (9, entry 0 (Arrived 0 0 (replicate 16384 97)) Dropped) ∷ [])

-- 8: late requests left out of the pipe
-- 10: released though still in the pipe
abbrev late_stays_in_the_pipe : Example
late_stays_in_the_pipe = example (setting_of torrent_two_blocks 1 (rules 2 1))
    (enters 0 (true ∷ true ∷ [])
    (entry 0 (Next 0) (Request (block_of 0 0 16384))
    ∷ entry 0 (Next 0) (Request (block_of 0 16384 16384))
    ∷ entry 0 (Next 0) PipeFull
    ∷ entry 0 (Late 0 0) Quiet
    ∷ entry 0 (Late 0 16384) Quiet
    ∷ entry 0 (Next 0) PipeFull
    ∷ entry 0 (Release 0 0) Quiet
    ∷ entry 0 (Next 0) (Request (block_of 0 0 16384)) ∷ []))
    ((8, entry 0 (Next 0) (Request (block_of 1 0 16384)))
    ∷ (10, entry 0 (Next 0) PipeFull) ∷ [])

-- 5: late block asked again before its release
-- 7: idle though late was released
abbrev released_once_late : Example
released_once_late = example (setting_of torrent_one_piece 1 usual_rules)
    (enters 0 (true ∷ [])
    (entry 0 (Next 0) (Request (block_of 0 0 3))
    ∷ entry 0 (Late 0 0) Quiet
    ∷ entry 0 (Next 0) Idle
    ∷ entry 0 (Release 0 0) Quiet
    ∷ entry 0 (Next 0) (Request (block_of 0 0 3)) ∷ []))
    ((5, entry 0 (Next 0) (Request (block_of 0 0 3)))
    ∷ (7, entry 0 (Next 0) Idle) ∷ [])

-- 8: idle since the rarest piece is spent
-- 8: spent piece begun again
-- 12: piece spent for another peer too
abbrev spent_piece_is_passed_by : Example
spent_piece_is_passed_by = example (setting_of torrent_short_last 3 (rules 5 0))
    (enters 0 (true ∷ true ∷ true ∷ [])
    (enters 1 (false ∷ true ∷ true ∷ [])
    (entry 0 (Next 0) (Request (block_of 0 0 3))
    ∷ entry 0 (Late 0 0) Quiet
    ∷ entry 0 (Next 1) (Request (block_of 1 0 3))
    ∷ enters 2 (true ∷ false ∷ true ∷ [])
    (entry 2 (Next 2) (Request (block_of 0 0 3)) ∷ []))))
    ((8, entry 0 (Next 1) Idle)
    ∷ (8, entry 0 (Next 1) (Request (block_of 0 0 3)))
    ∷ (12, entry 2 (Next 2) (Request (block_of 2 0 1))) ∷ [])

-- 8: piece with a late block left
-- 10: another piece begun for a spent one
abbrev spent_open_piece_is_passed_by : Example
spent_open_piece_is_passed_by = example (setting_of torrent_four_pairs 2 (open_rules 5 0 1024 64 1))
    (enters 0 (true ∷ true ∷ true ∷ true ∷ [])
    (enters 1 (false ∷ true ∷ true ∷ true ∷ [])
    (entry 0 (Next 0) (Request (block_of 0 0 16384))
    ∷ entry 0 (Late 0 0) Quiet
    ∷ entry 0 (Next 0) (Request (block_of 0 16384 16384))
    ∷ entry 0 (Next 2) (Request (block_of 2 0 16384))
    ∷ entry 0 (Next 3) (Request (block_of 2 16384 16384)) ∷ [])))
    ((8, entry 0 (Next 0) (Request (block_of 1 0 16384)))
    ∷ (10, entry 0 (Next 3) (Request (block_of 3 0 16384))) ∷ [])

-- 0: late of a stranger taken
-- 2: late of an unasked block taken
-- 3: bitfield late by a refused late
-- 6: late at another place taken
-- 7: late of no piece told as such
-- 11: late of another peers block taken
-- 15: late of a released block taken
abbrev refusals_of_late : Example
refusals_of_late = example (setting_of torrent_short_last 2 usual_rules)
    (entry 0 (Late 0 0) (Refused NotJoined)
    ∷ entry 0 Join Joined
    ∷ entry 0 (Late 0 0) (Refused NotAsked)
    ∷ entry 0 (Bits (true ∷ true ∷ true ∷ [])) (Noted true)
    ∷ entry 0 Unchoke Quiet
    ∷ entry 0 (Next 0) (Request (block_of 0 0 3))
    ∷ entry 0 (Late 0 1) (Refused NotAsked)
    ∷ entry 0 (Late 9 0) (Refused NotAsked)
    ∷ enters 1 (true ∷ false ∷ false ∷ [])
    (entry 1 (Late 0 0) (Refused NotAsked)
    ∷ entry 0 (Late 0 0) Quiet
    ∷ entry 0 (Late 0 0) Quiet
    ∷ entry 0 (Release 0 0) Quiet
    ∷ entry 0 (Late 0 0) (Refused NotAsked) ∷ []))
    ((0, entry 0 (Late 0 0) Quiet)
    ∷ (2, entry 0 (Late 0 0) Quiet)
    ∷ (3, entry 0 (Bits (true ∷ true ∷ true ∷ [])) (Refused LateBits))
    ∷ (6, entry 0 (Late 0 1) Quiet)
    ∷ (7, entry 0 (Late 9 0) (Refused NoSuchPiece))
    ∷ (11, entry 1 (Late 0 0) Quiet)
    ∷ (15, entry 0 (Late 0 0) Quiet) ∷ [])

-- 8: begun piece of others for one alone
-- 10: block of a piece of its own for another
-- 12: idle though endgame shares its pieces
abbrev alone_begins_its_own : Example
alone_begins_its_own = example (setting_of torrent_two_blocks 2 usual_rules)
    (enters 0 (true ∷ true ∷ [])
    (enters 1 (true ∷ true ∷ [])
    (entry 0 (Next 0) (Request (block_of 0 0 16384))
    ∷ entry 1 (Alone true) Quiet
    ∷ entry 1 (Next 0) (Request (block_of 1 0 16384))
    ∷ entry 0 (Next 0) (Request (block_of 0 16384 16384))
    ∷ entry 0 (Next 0) Idle
    ∷ entry 1 (Next 0) (Request (block_of 1 16384 16384))
    ∷ entry 0 (Next 0) (Request (block_of 1 0 16384)) ∷ [])))
    ((8, entry 1 (Next 0) (Request (block_of 0 16384 16384)))
    ∷ (10, entry 0 (Next 0) (Request (block_of 1 16384 16384)))
    ∷ (12, entry 0 (Next 0) Idle) ∷ [])

-- 8: piece of its own goes on elsewhere
-- 12: idle though it was told off
abbrev alone_told_off : Example
alone_told_off = example (setting_of torrent_two_blocks 2 usual_rules)
    (enters 0 (true ∷ true ∷ [])
    (enters 1 (true ∷ true ∷ [])
    (entry 1 (Alone true) Quiet
    ∷ entry 1 (Next 0) (Request (block_of 0 0 16384))
    ∷ entry 0 (Next 0) (Request (block_of 1 0 16384))
    ∷ entry 0 (Next 0) (Request (block_of 1 16384 16384))
    ∷ entry 0 (Next 0) Idle
    ∷ entry 1 (Alone false) Quiet
    ∷ entry 0 (Next 0) (Request (block_of 0 16384 16384)) ∷ [])))
    ((8, entry 0 (Next 0) (Request (block_of 0 16384 16384)))
    ∷ (12, entry 0 (Next 0) Idle) ∷ [])

-- 11: held piece of its own goes on elsewhere
-- 13: idle though the owner choked us
abbrev choke_shares_its_pieces : Example
choke_shares_its_pieces = example (setting_of torrent_two_blocks 2 usual_rules)
    (enters 0 (true ∷ true ∷ [])
    (enters 1 (true ∷ true ∷ [])
    (entry 1 (Alone true) Quiet
    ∷ entry 1 (Next 0) (Request (block_of 0 0 16384))
    ∷ entry 1 (Arrived 0 0 (replicate 16384 97)) Stored
    ∷ entry 0 (Next 0) (Request (block_of 1 0 16384))
    ∷ entry 0 (Next 0) (Request (block_of 1 16384 16384))
    ∷ entry 0 (Next 0) Idle
    ∷ entry 1 Choke Quiet
    ∷ entry 0 (Next 0) (Request (block_of 0 16384 16384)) ∷ [])))
    ((11, entry 0 (Next 0) (Request (block_of 0 16384 16384)))
    ∷ (13, entry 0 (Next 0) Idle) ∷ [])

-- 12: goes on though another brought a block
-- 13: passed by though two brought blocks
abbrev another_brings_a_block_of_its_own : Example
another_brings_a_block_of_its_own = example (setting_of torrent_two_blocks 2 usual_rules)
    (enters 0 (true ∷ true ∷ [])
    (enters 1 (true ∷ true ∷ [])
    (entry 0 (Next 0) (Request (block_of 0 0 16384))
    ∷ entry 0 (Release 0 0) Quiet
    ∷ entry 1 (Alone true) Quiet
    ∷ entry 1 (Next 0) (Request (block_of 0 0 16384))
    ∷ entry 0 (Arrived 0 0 (replicate 16384 97)) Stored
    ∷ entry 1 (Next 0) (Cancel (block_of 0 0 16384))
    ∷ entry 1 (Next 0) (Request (block_of 1 0 16384))
    ∷ entry 0 (Next 0) (Request (block_of 0 16384 16384)) ∷ [])))
    ((12, entry 1 (Next 0) (Request (block_of 0 16384 16384)))
    ∷ (13, entry 0 (Next 0) Idle) ∷ [])

-- 10: alone outlasts its peer
abbrev alone_goes_with_its_peer : Example
alone_goes_with_its_peer = example (setting_of torrent_two_blocks 2 usual_rules)
    (entry 0 Join Joined
    ∷ entry 0 (Alone true) Quiet
    ∷ entry 0 Leave Quiet
    ∷ enters 0 (true ∷ true ∷ [])
    (enters 1 (true ∷ true ∷ [])
    (entry 1 (Next 0) (Request (block_of 0 0 16384))
    ∷ entry 0 (Next 0) (Request (block_of 0 16384 16384)) ∷ [])))
    ((10, entry 0 (Next 0) (Request (block_of 1 0 16384))) ∷ [])

-- 9: piece of its own goes on in order
abbrev alone_in_order : Example
alone_in_order = example (setting_of torrent_two_blocks 2 usual_rules)
    (entry 0 (InOrder true) Quiet
    ∷ enters 0 (true ∷ true ∷ [])
    (enters 1 (true ∷ true ∷ [])
    (entry 1 (Alone true) Quiet
    ∷ entry 1 (Next 0) (Request (block_of 0 0 16384))
    ∷ entry 0 (Next 0) (Request (block_of 1 0 16384))
    ∷ entry 1 (Next 0) (Request (block_of 0 16384 16384)) ∷ [])))
    ((9, entry 0 (Next 0) (Request (block_of 0 16384 16384))) ∷ [])

-- 11: piece of another one alone
abbrev two_work_alone : Example
two_work_alone = example (setting_of torrent_two_blocks 2 usual_rules)
    (enters 0 (true ∷ true ∷ [])
    (enters 1 (true ∷ true ∷ [])
    (entry 0 (Alone true) Quiet
    ∷ entry 1 (Alone true) Quiet
    ∷ entry 0 (Next 0) (Request (block_of 0 0 16384))
    ∷ entry 1 (Next 0) (Request (block_of 1 0 16384))
    ∷ entry 0 (Next 0) (Request (block_of 0 16384 16384))
    ∷ entry 0 (Next 0) Idle
    ∷ entry 1 (Next 0) (Request (block_of 1 16384 16384))
    ∷ entry 0 (Next 0) (Request (block_of 1 0 16384)) ∷ [])))
    ((11, entry 0 (Next 0) (Request (block_of 1 16384 16384))) ∷ [])

-- 0: alone of a stranger taken
-- 5: bitfield late by an alone
abbrev refusals_of_alone : Example
refusals_of_alone = example (setting_of torrent_two_blocks 1 usual_rules)
    (entry 0 (Alone true) (Refused NotJoined)
    ∷ entry 0 Join Joined
    ∷ entry 0 (Alone true) Quiet
    ∷ entry 0 (Alone true) Quiet
    ∷ entry 0 (Alone false) Quiet
    ∷ entry 0 (Bits (true ∷ true ∷ [])) (Noted true) ∷ [])
    ((0, entry 0 (Alone true) Quiet)
    ∷ (5, entry 0 (Bits (true ∷ true ∷ [])) (Refused LateBits)) ∷ [])

-- 8: lost piece stays complete
-- 7: loss needs a check
abbrev lost_piece_is_asked_again : Example
lost_piece_is_asked_again = example (setting_of torrent_one_piece 1 usual_rules)
    (enters 0 (true ∷ [])
    (entry 0 (Next 0) (Request (block_of 0 0 3))
    ∷ entry 0 (Arrived 0 0 (97 ∷ 98 ∷ 99 ∷ [])) Completed
    ∷ entry 0 (Settle 0 (97 ∷ 98 ∷ 99 ∷ [])) Had
    ∷ entry 0 (Next 0) NothingLeft
    ∷ entry 0 (Lose 0) Failed
    ∷ entry 0 (Next 0) (Request (block_of 0 0 3))
    ∷ entry 0 (Arrived 0 0 (97 ∷ 98 ∷ 99 ∷ [])) Completed
    ∷ entry 0 (Settle 0 (97 ∷ 98 ∷ 99 ∷ [])) Had
    ∷ entry 0 (Next 0) NothingLeft ∷ []))
    ((8, entry 0 (Next 0) NothingLeft)
    ∷ (7, entry 0 (Lose 0) (Refused NotWaiting)) ∷ [])

-- 7: request in flight ends by a loss
-- 7: lost piece is begun no more
-- 8: lost block is dropped
abbrev lost_with_a_block_in_flight : Example
lost_with_a_block_in_flight = example (setting_of torrent_two_blocks 1 usual_rules)
    (enters 0 (true ∷ true ∷ [])
    (entry 0 (Next 0) (Request (block_of 0 0 16384))
    ∷ entry 0 (Arrived 0 0 (replicate 16384 97)) Stored
    ∷ entry 0 (Next 0) (Request (block_of 0 16384 16384))
    ∷ entry 0 (Lose 0) Failed
    ∷ entry 0 (Next 1) (Request (block_of 0 0 16384))
    ∷ entry 0 (Arrived 0 0 (replicate 16384 97)) Stored ∷ []))
    ((7, entry 0 (Next 1) (Request (block_of 0 16384 16384)))
    ∷ (7, entry 0 (Next 1) (Request (block_of 1 0 16384)))
    ∷ (8, entry 0 (Arrived 0 0 (replicate 16384 97)) Dropped) ∷ [])

-- 9: discarded block is dropped
-- 7: piece of a discarded block is passed by
abbrev discarded_block_is_asked_again : Example
discarded_block_is_asked_again = example (setting_of torrent_two_blocks 1 usual_rules)
    (enters 0 (true ∷ true ∷ [])
    (entry 0 (Next 0) (Request (block_of 0 0 16384))
    ∷ entry 0 (Arrived 0 0 (replicate 16384 97)) Stored
    ∷ entry 0 (Next 0) (Request (block_of 0 16384 16384))
    ∷ entry 0 (Discard 0 0) Failed
    ∷ entry 0 (Next 1) (Request (block_of 0 0 16384))
    ∷ entry 0 (Arrived 0 16384 (replicate 16384 97)) Stored
    ∷ entry 0 (Arrived 0 0 (replicate 16384 97)) Completed ∷ []))
    ((9, entry 0 (Arrived 0 0 (replicate 16384 97)) Stored)
    ∷ (7, entry 0 (Next 1) (Request (block_of 1 0 16384))) ∷ [])

abbrev discarded_block_was_the_only_one : Example
discarded_block_was_the_only_one = example (setting_of torrent_two_blocks 1 usual_rules)
    (enters 0 (true ∷ true ∷ [])
    (entry 0 (Next 0) (Request (block_of 0 0 16384))
    ∷ entry 0 (Arrived 0 0 (replicate 16384 97)) Stored
    ∷ entry 0 (Discard 0 0) Failed
    ∷ entry 0 (Next 1) (Request (block_of 1 0 16384)) ∷ []))
    []

-- 3: settled though a block was discarded
-- 6: block of a complete piece is discarded
abbrev discarded_before_its_check : Example
discarded_before_its_check = example (setting_of torrent_one_piece 1 usual_rules)
    (entry 0 Join Joined
    ∷ entry 0 (Arrived 0 0 (97 ∷ 98 ∷ 100 ∷ [])) Completed
    ∷ entry 0 (Discard 0 0) Failed
    ∷ entry 0 (Settle 0 (97 ∷ 98 ∷ 100 ∷ [])) (Refused NotWaiting)
    ∷ entry 0 (Arrived 0 0 (97 ∷ 98 ∷ 99 ∷ [])) Completed
    ∷ entry 0 (Settle 0 (97 ∷ 98 ∷ 99 ∷ [])) Had
    ∷ entry 0 (Discard 0 0) (Refused NotWaiting) ∷ [])
    ((3, entry 0 (Settle 0 (97 ∷ 98 ∷ 100 ∷ [])) Failed)
    ∷ (6, entry 0 (Discard 0 0) Failed) ∷ [])

-- 0: no such piece is lost
-- 2: no such block is discarded
-- 3: loss needs a peer
-- 6: bitfield late by a loss
abbrev refusals_of_losses : Example
refusals_of_losses = example (setting_of torrent_short_last 1 usual_rules)
    (entry 0 (Lose 3) (Refused NoSuchPiece)
    ∷ entry 0 (Discard 3 0) (Refused NoSuchPiece)
    ∷ entry 0 (Discard 0 1) (Refused NoSuchBlock)
    ∷ entry 0 (Lose 0) Failed
    ∷ entry 0 (Discard 0 0) Failed
    ∷ entry 0 Join Joined
    ∷ entry 0 (Bits (true ∷ true ∷ true ∷ [])) (Noted true) ∷ [])
    ((0, entry 0 (Lose 3) Failed)
    ∷ (2, entry 0 (Discard 0 1) Failed)
    ∷ (3, entry 0 (Lose 0) (Refused NotJoined))
    ∷ (6, entry 0 (Bits (true ∷ true ∷ true ∷ [])) (Refused LateBits)) ∷ [])

-- 7: block in flight is requested again
-- 7: piece of a block in flight has not begun
-- 10: no cancel for a block in flight
-- 6: another block in flight
abbrev block_in_flight_counts : Example
block_in_flight_counts = example (setting_of torrent_two_blocks 2 usual_rules)
    (enters 0 (true ∷ true ∷ [])
    (enters 1 (true ∷ true ∷ [])
    (entry 0 (Requested 0 16384) (InFlight (block_of 0 16384 16384))
    ∷ entry 1 (Next 0) (Request (block_of 0 0 16384))
    ∷ entry 1 (Next 0) (Request (block_of 1 0 16384))
    ∷ entry 1 (Arrived 0 16384 (replicate 16384 97)) Stored
    ∷ entry 0 (Next 0) (Cancel (block_of 0 16384 16384))
    ∷ entry 0 (Requested 1 16384) (InFlight (block_of 1 16384 16384)) ∷ [])))
    ((7, entry 1 (Next 0) (Request (block_of 0 16384 16384)))
    ∷ (7, entry 1 (Next 1) (Request (block_of 1 0 16384)))
    ∷ (10, entry 0 (Next 0) (Request (block_of 1 16384 16384)))
    ∷ (6, entry 0 (Requested 0 16384) (InFlight (block_of 0 0 16384))) ∷ [])

-- 5: block in flight beyond the depth
abbrev block_in_flight_takes_room : Example
block_in_flight_takes_room = example (setting_of torrent_two_blocks 1 (rules 1 1))
    (enters 0 (true ∷ true ∷ [])
    (entry 0 (Requested 1 16384) (InFlight (block_of 1 16384 16384))
    ∷ entry 0 (Next 0) PipeFull
    ∷ entry 0 (Requested 1 0) (Refused NotWaiting)
    ∷ entry 0 (Release 1 16384) Quiet
    ∷ entry 0 (Next 1) (Request (block_of 1 0 16384)) ∷ []))
    ((5, entry 0 (Requested 1 0) (InFlight (block_of 1 0 16384))) ∷ [])

-- 0: strangers block in flight
-- 3: no such block in flight
-- 5: block in flight that is not shown
-- 8: block in flight while choked
-- 11: unwanted block in flight
-- 14: block in flight beyond the reach
-- 17: block in flight twice
-- 21: block in flight at two peers
-- 23: block in flight while a cancel is due
-- 25: held block in flight
abbrev refusals_of_requested : Example
refusals_of_requested = example (setting_of torrent_two_blocks 2 usual_rules)
    (entry 0 (Requested 0 0) (Refused NotJoined)
    ∷ entry 0 Join Joined
    ∷ entry 0 (Requested 2 0) (Refused NoSuchPiece)
    ∷ entry 0 (Requested 0 1) (Refused NoSuchBlock)
    ∷ entry 0 Unchoke Quiet
    ∷ entry 0 (Requested 0 0) (Refused NotWaiting)
    ∷ entry 0 (Have 0) (Noted true)
    ∷ entry 0 Choke Quiet
    ∷ entry 0 (Requested 0 0) (Refused NotWaiting)
    ∷ entry 0 Unchoke Quiet
    ∷ entry 0 (Level 0 0) Quiet
    ∷ entry 0 (Requested 0 0) (Refused NotWaiting)
    ∷ entry 0 (Level 0 7) Quiet
    ∷ entry 0 (Reach 6) Quiet
    ∷ entry 0 (Requested 0 0) (Refused NotWaiting)
    ∷ entry 0 (Reach 7) Quiet
    ∷ entry 0 (Requested 0 0) (InFlight (block_of 0 0 16384))
    ∷ entry 0 (Requested 0 0) (Refused NotWaiting)
    ∷ enters 1 (true ∷ true ∷ [])
    (entry 1 (Requested 0 0) (Refused NotWaiting)
    ∷ entry 1 (Arrived 0 0 (replicate 16384 97)) Stored
    ∷ entry 0 (Requested 0 16384) (Refused NotWaiting)
    ∷ entry 0 (Next 0) (Cancel (block_of 0 0 16384))
    ∷ entry 0 (Requested 0 0) (Refused NotWaiting)
    ∷ entry 0 (Requested 0 16384) (InFlight (block_of 0 16384 16384)) ∷ []))
    ((0, entry 0 (Requested 0 0) (InFlight (block_of 0 0 16384)))
    ∷ (3, entry 0 (Requested 0 1) (InFlight (block_of 0 0 16384)))
    ∷ (5, entry 0 (Requested 0 0) (InFlight (block_of 0 0 16384)))
    ∷ (8, entry 0 (Requested 0 0) (InFlight (block_of 0 0 16384)))
    ∷ (11, entry 0 (Requested 0 0) (InFlight (block_of 0 0 16384)))
    ∷ (14, entry 0 (Requested 0 0) (InFlight (block_of 0 0 16384)))
    ∷ (17, entry 0 (Requested 0 0) (InFlight (block_of 0 0 16384)))
    ∷ (21, entry 1 (Requested 0 0) (InFlight (block_of 0 0 16384)))
    ∷ (23, entry 0 (Requested 0 16384) (InFlight (block_of 0 16384 16384)))
    ∷ (25, entry 0 (Requested 0 0) (InFlight (block_of 0 0 16384))) ∷ [])

abbrev pub first_examples : List Example
first_examples =
    first_request
    ∷ another_first_request
    ∷ one_peer_to_the_end
    ∷ rarest_first
    ∷ full_pipe
    ∷ choke_frees
    ∷ cancel_in_endgame
    ∷ no_double_before_endgame
    ∷ double_outlasts_endgame
    ∷ failed_check
    ∷ failed_check_in_endgame
    ∷ held_block_dropped
    ∷ block_by_block
    ∷ refusals
    ∷ wrong_count
    ∷ stale_verdict
    ∷ random_first_piece
    ∷ rare_first_piece_too
    ∷ strict_priority
    ∷ gone_peer_not_counted
    ∷ rejoin_in_endgame
    ∷ depth_two
    ∷ deep_pipe
    ∷ rarest_from_the_start
    ∷ second_piece_at_random
    ∷ rarest_after_two_pieces
    ∷ wants
    ∷ endgame_of_the_wanted
    ∷ want_before_the_bits
    ∷ asked_stays_asked
    ∷ released_is_asked_elsewhere
    ∷ released_in_endgame
    ∷ released_piece_is_unbegun
    ∷ released_is_asked_again
    ∷ released_arrives_after_all
    ∷ []

abbrev pub second_examples : List Example
second_examples =
    late_is_asked_elsewhere
    ∷ late_holds_up_endgame
    ∷ late_in_spite_of_one_asker
    ∷ late_no_more
    ∷ depth_of_one
    ∷ deepened
    ∷ depth_outlasts_a_choke
    ∷ depth_goes_with_its_peer
    ∷ smaller_depth
    ∷ one_asker
    ∷ two_askers
    ∷ no_depth_may_be_told
    ∷ greatest_depth
    ∷ refusals_of_release_and_depth
    ∷ haves_after_a_bitfield
    ∷ haves_after_a_have
    ∷ haves_of_none
    ∷ haves_are_counted
    ∷ two_levels
    ∷ raised_in_mid_download
    ∷ streaming
    ∷ earlier_piece_in_order
    ∷ in_order_told_off
    ∷ peer_of_low_levels
    ∷ unwanted_by_level
    ∷ levels_of_none
    ∷ want_after_levels
    ∷ level_before_the_bits
    ∷ endgame_of_all_levels
    ∷ asked_outlasts_its_level
    ∷ refusals_of_levels
    ∷ []

abbrev pub third_examples : List Example
third_examples =
    any_begun_piece_goes_on
    ∷ rarest_while_few_are_open
    ∷ as_many_open_as_may_be
    ∷ rarest_of_the_open_goes_on
    ∷ first_piece_before_rarity
    ∷ rarest_of_the_begun_at_random
    ∷ rarest_once_enough_are_had
    ∷ open_counted_over_all_levels
    ∷ wholly_requested_pieces_are_not_open
    ∷ released_block_opens_its_piece
    ∷ held_block_opens_its_piece
    ∷ held_pieces_are_not_open
    ∷ unwanted_pieces_are_not_open
    ∷ none_of_the_open_is_shown
    ∷ in_order_however_many_are_open
    ∷ endgame_at_few
    ∷ endgame_at_none
    ∷ unshown_piece_holds_up_endgame
    ∷ endgame_over_what_is_shown
    ∷ shown_piece_holds_up_endgame
    ∷ lower_level_is_awaited_too
    ∷ slow_peer_gets_low_levels
    ∷ reach_in_endgame
    ∷ reach_goes_with_its_peer
    ∷ refusals_of_reach_and_order
    ∷ window_comes_in_order
    ∷ window_told_anew
    ∷ lacked_is_asked_elsewhere
    ∷ lack_makes_another_piece_rarest
    ∷ []

abbrev pub fourth_examples : List Example
fourth_examples =
    lack_of_the_only_piece
    ∷ cancel_outlasts_a_lack
    ∷ lack_begins_endgame
    ∷ refusals_of_lack
    ∷ late_comes_after_all
    ∷ late_at_a_lone_peer
    ∷ late_stays_in_the_pipe
    ∷ released_once_late
    ∷ spent_piece_is_passed_by
    ∷ spent_open_piece_is_passed_by
    ∷ refusals_of_late
    ∷ alone_begins_its_own
    ∷ alone_told_off
    ∷ choke_shares_its_pieces
    ∷ another_brings_a_block_of_its_own
    ∷ alone_goes_with_its_peer
    ∷ alone_in_order
    ∷ two_work_alone
    ∷ refusals_of_alone
    ∷ lost_piece_is_asked_again
    ∷ lost_with_a_block_in_flight
    ∷ discarded_block_is_asked_again
    ∷ discarded_block_was_the_only_one
    ∷ discarded_before_its_check
    ∷ refusals_of_losses
    ∷ block_in_flight_counts
    ∷ block_in_flight_takes_room
    ∷ refusals_of_requested
    ∷ []

abbrev pub examples : List Example
examples = first_examples ++ (second_examples ++ (third_examples ++ fourth_examples))
