-- What an entry more makes of a history that only proofs read.
use Rattle.std.specs.Prelude.{false, ◌∷◌}
use Rattle.bt_check.specs.Checked.{joined}
use Rattle.bt_meta.specs.Layout.{Layout}
use Rattle.bt_history.specs.History.{History}
use Rattle.bt_history.specs.Setting.{Setting}
use Rattle.bt_picker.specs.Checks.{arriving, settling}
use Rattle.bt_picker.specs.Told.{checking, telling}
use Rattle.bt_picker.specs.declared.past.Note.{Note}
use Rattle.bt_picker.specs.declared.past.Note.TheVariants.{Checked, Received, Settled, Told}

-- a setting of this torrent, of which nothing else is asked
abbrev pub setting_with : Layout → Setting
setting_with t = record {
  torrent = t;
  workers = 0;
  depth = 0;
  random = 0;
  askers = 0;
  deepest = 0;
  most_open = 0;
  rush = 0;
  shown = false;
}

-- the history with one entry more
abbrev pub noted : History → Note → History
noted h (Told w told reply) = telling w told.now reply ∷ h
noted h (Checked w verdict reply) = checking w verdict.now.piece (joined verdict.now) reply ∷ h
noted h (Received w p begin bytes reply) = arriving w p begin bytes.now.bytes reply ∷ h
noted h (Settled w p torrent reply) = settling (setting_with torrent.now.layout) h w p reply ∷ h
