use Rattle.std.proofs.Common.{◌≡◌, ◌++◌, map, drop}
use Rattle.std.specs.Prelude.{option_map}
use Rattle.bt_text.specs.Setups.{digests_in}
use Rattle.bt_text.proofs.script.setup.digests.Given as goal

-- the digests so far, and those of the texts that are left
abbrev pub invariant-loop-text : goal.invariant-loop-text
invariant-loop-text l =
    digests_in (map (λ x. x.now) l.texts)
    ≡ option_map (λ others. l.digests.items ++ others) (digests_in (map (λ x. x.now) (drop l.text-index l.texts)))
