-- What is known of a picker behind a handle stays known while its setting stays.
use Rattle.std.specs.Prelude.{◌≡◌, ◌≤◌}
use Rattle.std.proofs.Common.{ap, subst, ◌∙◌}
use Rattle.bt_history.specs.Setting.{AreRules, Setting}
use Rattle.bt_c.specs.declared.held.Held.{Held}
use Rattle.bt_c.specs.Engines.{state_of}
use Rattle.bt_c.specs.Rules.{rules_of_setting}

module _ (h : Held) (s : Setting) (same : (state_of h.engine).setting ≡ s) where
  pub still_rules : AreRules s.torrent (rules_of_setting s)
  still_rules = subst (λ (t : Setting). AreRules t.torrent (rules_of_setting t)) same h.are_rules

  pub still_own : h.torrent.value.layout ≡ s.torrent
  still_own = h.own_torrent ∙ ap (λ (t : Setting). t.torrent) same

  pub still_worker : 1 ≤ s.workers
  still_worker = subst (λ (t : Setting). 1 ≤ t.workers) same h.has_worker
