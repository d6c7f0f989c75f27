-- Trees that are made by hand and not read.
use Rattle.std.specs.Prelude.{Result, Ok, Err, nat_lt, if◌then◌else◌}
use Rattle.bt_bencode.specs.declared.span.Span.{Span}
use Rattle.bt_bencode.specs.declared.fault.BenFault.{BenFault}
use Rattle.bt_bencode.specs.declared.fault.BenFault.TheVariants.{TooDeep, KeyOrder}
use Rattle.bt_bencode.specs.declared.tree.TheConstants.{MAX_DEPTH}
use Rattle.bt_bencode.specs.Term.{Term, Terms, Entries, list, dict, depth_of_terms, depth_of_entries}
use Rattle.bt_bencode.specs.Grammar.{keys_rise}

-- the span of a tree that has no source
abbrev pub no_span : Span
no_span = record { start = 0; end = 0 }

-- the list of these items, or why there is none
abbrev pub list_made : Terms → Result Term BenFault
list_made ts = if nat_lt (depth_of_terms ts) MAX_DEPTH then Ok (list no_span ts) else Err TooDeep

-- the dictionary of these entries, or the first reason why there is none
abbrev pub dict_made : Entries → Result Term BenFault
dict_made es =
    if keys_rise es then (if nat_lt (depth_of_entries es) MAX_DEPTH then Ok (dict no_span es) else Err TooDeep)
    else Err KeyOrder
