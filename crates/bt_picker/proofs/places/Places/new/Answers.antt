use Rattle.bt_picker.proofs.Placing.{some_piece}
use Rattle.bt_picker.proofs.places.Places.new.Goals as goal

pub block_count-width-requires : goal.block_count-width-requires
block_count-width-requires c = some_piece c.args.torrent.now.layout c.piece_count-pieces.ensures.layout
