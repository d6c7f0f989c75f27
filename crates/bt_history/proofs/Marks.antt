-- Marks that are equal by `==` are the same.
use Rattle.std.proofs.Common.{rules, ◌≡◌, ◌==◌, true, false, ◌&&◌, refl, ap, eqb-true}
use Rattle.std.proofs.lemmas.Bool.{and_parts, false≢true}
use Rattle.bt_meta.specs.declared.block.Block.{Block}
use Rattle.bt_meta.specs.contracts.block.BlockPartialEq.TheImpl as blocks
use Rattle.bt_history.specs.declared.call.Reason.{Reason}
use Rattle.bt_history.specs.declared.call.Reply.{Reply}
use Rattle.bt_history.specs.declared.call.Reply.TheVariants.{Joined, Noted, Quiet, Cancel, Request, InFlight, Choked, PipeFull, Idle, NothingLeft, Stored}
use Rattle.bt_history.specs.declared.call.Reply.TheVariants.{Completed, Dropped, Had, Failed, Refused}
use Rattle.bt_history.specs.declared.mark.CallMark.{CallMark}
use Rattle.bt_history.specs.declared.mark.CallMark.TheVariants.{Join, Bits, Have, Choke, Unchoke, Next, Arrived, Settle, Leave, Want, Haves, Depth}
use Rattle.bt_history.specs.declared.mark.CallMark.TheVariants.{Release, Level, Levels, InOrder, Reach, InOrderFrom, Lack, Late, Alone, Requested}
use Rattle.bt_history.specs.declared.mark.Mark.{Mark}
use Rattle.bt_history.specs.contracts.call.ReasonPartialEq.TheImpl as reasons
use denote.Enum.Bare.{same_true}
use Rattle.bt_history.specs.contracts.call.Reason.{the_type}
use Rattle.bt_history.specs.contracts.call.ReplyPartialEq.TheImpl as replies
use Rattle.bt_history.specs.contracts.mark.CallMarkPartialEq.TheImpl as calls
use Rattle.bt_history.specs.contracts.mark.MarkPartialEq.TheImpl as marks

same_reason : (a b : Reason) → reasons.ghosts.eq a b ≡ true → a ≡ b
same_reason a b is = same_true the_type (search rules) a b is

same_block : (a b : Block) → blocks.ghosts.eq a b ≡ true → a ≡ b
same_block a b is =
    let parts = and_parts (a.piece == b.piece) ((a.begin == b.begin) && (a.len == b.len)) is in
    let rest = and_parts (a.begin == b.begin) (a.len == b.len) parts.1 in
    let piece = eqb-true a.piece b.piece parts.0 in
    let begin = eqb-true a.begin b.begin rest.0 in
    let len = eqb-true a.len b.len rest.1 in
    λ i. record { piece = piece i; begin = begin i; len = len i }

pub same_reply : (a b : Reply) → replies.ghosts.eq a b ≡ true → a ≡ b
same_reply Joined Joined is = refl
same_reply (Noted true) (Noted true) is = refl
same_reply (Noted false) (Noted false) is = refl
same_reply Quiet Quiet is = refl
same_reply (Cancel x) (Cancel y) is = ap Cancel (same_block x y is)
same_reply (Request x) (Request y) is = ap Request (same_block x y is)
same_reply (InFlight x) (InFlight y) is = ap InFlight (same_block x y is)
same_reply Choked Choked is = refl
same_reply PipeFull PipeFull is = refl
same_reply Idle Idle is = refl
same_reply NothingLeft NothingLeft is = refl
same_reply Stored Stored is = refl
same_reply Completed Completed is = refl
same_reply Dropped Dropped is = refl
same_reply Had Had is = refl
same_reply Failed Failed is = refl
same_reply (Refused x) (Refused y) is = ap Refused (same_reason x y is)
same_reply a b is = absurd (false≢true is)

-- a reply equals itself
pub reply_is_itself : (a : Reply) → replies.ghosts.eq a a ≡ true
reply_is_itself a = search rules

same_call : (a b : CallMark) → calls.ghosts.eq a b ≡ true → a ≡ b
same_call Join Join is = refl
same_call Bits Bits is = refl
same_call (Have p) (Have q) is = ap Have (eqb-true p q is)
same_call Choke Choke is = refl
same_call Unchoke Unchoke is = refl
same_call (Next v) (Next w) is = ap Next (eqb-true v w is)
same_call (Arrived p begin len) (Arrived q start size) is =
    let parts = and_parts (p == q) ((begin == start) && (len == size)) is in
    let rest = and_parts (begin == start) (len == size) parts.1 in
    let piece = eqb-true p q parts.0 in
    let place = eqb-true begin start rest.0 in
    let length = eqb-true len size rest.1 in
    λ i. Arrived (piece i) (place i) (length i)
same_call (Settle p) (Settle q) is = ap Settle (eqb-true p q is)
same_call Leave Leave is = refl
same_call Want Want is = refl
same_call Haves Haves is = refl
same_call (Depth m) (Depth n) is = ap Depth (eqb-true m n is)
same_call (Release p begin) (Release q start) is =
    let parts = and_parts (p == q) (begin == start) is in
    let piece = eqb-true p q parts.0 in
    let place = eqb-true begin start parts.1 in
    λ i. Release (piece i) (place i)
same_call (Level p m) (Level q n) is =
    let parts = and_parts (p == q) (m == n) is in
    let piece = eqb-true p q parts.0 in
    let level = eqb-true m n parts.1 in
    λ i. Level (piece i) (level i)
same_call Levels Levels is = refl
same_call (InOrder true) (InOrder true) is = refl
same_call (InOrder false) (InOrder false) is = refl
same_call (Reach m) (Reach n) is = ap Reach (eqb-true m n is)
same_call (InOrderFrom m) (InOrderFrom n) is = ap InOrderFrom (eqb-true m n is)
same_call (Lack p) (Lack q) is = ap Lack (eqb-true p q is)
same_call (Late p begin) (Late q start) is =
    let parts = and_parts (p == q) (begin == start) is in
    let piece = eqb-true p q parts.0 in
    let place = eqb-true begin start parts.1 in
    λ i. Late (piece i) (place i)
same_call (Requested p begin) (Requested q start) is =
    let parts = and_parts (p == q) (begin == start) is in
    let piece = eqb-true p q parts.0 in
    let place = eqb-true begin start parts.1 in
    λ i. Requested (piece i) (place i)
same_call (Alone true) (Alone true) is = refl
same_call (Alone false) (Alone false) is = refl
same_call a b is = absurd (false≢true is)

pub same_mark : (a b : Mark) → marks.ghosts.eq a b ≡ true → a ≡ b
same_mark a b is =
    let parts = and_parts (a.place == b.place) (calls.ghosts.eq a.call b.call && replies.ghosts.eq a.reply b.reply) is in
    let rest = and_parts (calls.ghosts.eq a.call b.call) (replies.ghosts.eq a.reply b.reply) parts.1 in
    let place = eqb-true a.place b.place parts.0 in
    let call = same_call a.call b.call rest.0 in
    let reply = same_reply a.reply b.reply rest.1 in
    λ i. record { place = place i; call = call i; reply = reply i }
