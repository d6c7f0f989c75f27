-- A place at a desk of its own: what its history says of its worker.
use Rattle.std.specs.Prelude.{ℕ, ◌==◌, if◌then◌else◌, Bool, false, List, [], ◌∷◌, ◌++◌, slice_index_or, nat_lt, ◌&&◌}
use Rattle.bt_history.specs.declared.call.Reply.{Reply}
use Rattle.bt_history.specs.declared.event.Action.{Action}
use Rattle.bt_history.specs.History.{History}
use Rattle.bt_history.specs.Pieces.{had}
use Rattle.bt_history.specs.Finished.{finished}
use Rattle.std.specs.Borrow.{GName}
use Rattle.bt_picker.specs.Positions.{DeskState}
use Rattle.bt_meta.specs.Layout.{piece_count}
use Rattle.bt_peer.specs.Places.{PlaceRecord}

-- a worker's calls in a history, with all that they told and their replies, the oldest first
abbrev pub calls_in : History → ℕ → List (Action × Reply)
calls_in [] worker = []
calls_in (e ∷ h) worker = calls_in h worker ++ (if e.worker == worker then (e.action, e.reply) ∷ [] else [])

-- what a place at this desk says of itself, with these pieces told as news
abbrev pub desk_record : List GName → DeskState → ℕ → List Bool → Bool → PlaceRecord
desk_record lent desk worker told lacked = record {
  lent = lent;
  worker = worker;
  setting = desk.setting;
  calls = calls_in desk.history worker;
  others = λ other. if other == worker then [] else calls_in desk.history other;
  had = λ piece. nat_lt piece (piece_count desk.setting.torrent) && had desk.history piece;
  in_order = finished desk.history;
  told = λ piece. slice_index_or told piece false;
  lacked = lacked;
}
