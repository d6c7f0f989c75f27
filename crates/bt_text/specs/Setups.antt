-- The first line of a script.
use Rattle.std.specs.Prelude.{ℕ, ◌&&◌, nat_le, List, [], ◌∷◌, replicate, Option, Some, None, option_map, option_and_then, codes, if◌then◌else◌}
use Rattle.std.specs.Result.{result_ok}
use Rattle.std.specs.Str.{bytes_eq}
use Rattle.bt_meta.specs.Layout.{torrent_of}
use Rattle.bt_history.specs.declared.rules.TheConstants.{MOST_WORKERS}
use Rattle.bt_text.specs.declared.script.setup.Setup.{Setup}
use Rattle.bt_text.specs.Fields.{fields_of, number_in, small_number_in, digest_in}

-- a number of workers that a picker takes
abbrev pub workers_within : ℕ → Option ℕ
workers_within n = if nat_le 1 n && nat_le n MOST_WORKERS then Some n else None

-- the number of workers that the text says
abbrev pub workers_in : List ℕ → Option ℕ
workers_in text = option_and_then workers_within (small_number_in text)

-- one more digest in front
abbrev pub put_digest : Option (List ℕ) → Option (List (List ℕ)) → Option (List (List ℕ))
put_digest (Some digest) (Some digests) = Some (digest ∷ digests)
put_digest digest digests = None

-- the digests that these texts write
abbrev pub digests_in : List (List ℕ) → Option (List (List ℕ))
digests_in [] = Some []
digests_in (text ∷ texts) = put_digest (digest_in text) (digests_in texts)

-- the infohash isn't known
abbrev pub no_infohash : List ℕ
no_infohash = replicate 20 0

-- the parts of the first line together, if all can be read
abbrev pub setup_of : Option ℕ → Option ℕ → Option ℕ → Option (List (List ℕ)) → Option Setup
setup_of (Some piece_length) (Some total) (Some workers) (Some hashes) =
    option_map (λ torrent. record { torrent = torrent; workers = workers }) (result_ok (torrent_of piece_length total hashes no_infohash))
setup_of piece_length total workers hashes = None

-- the setup that these fields say
abbrev pub setup_of_fields : List (List ℕ) → Option Setup
setup_of_fields [] = None
setup_of_fields (word ∷ []) = None
setup_of_fields (word ∷ piece_length ∷ []) = None
setup_of_fields (word ∷ piece_length ∷ total ∷ []) = None
setup_of_fields (word ∷ piece_length ∷ total ∷ workers ∷ hashes) =
    if bytes_eq word (codes "torrent")
    then setup_of (small_number_in piece_length) (number_in total) (workers_in workers) (digests_in hashes)
    else None

-- the setup that this text says
abbrev pub setup_in : List ℕ → Option Setup
setup_in text = setup_of_fields (fields_of text)
