-- The laws hold after every legal history.
use Rattle.bt_history.specs.Setting.{Setting}
use Rattle.bt_history.specs.History.{History}
use Rattle.bt_history.specs.Legal.{IsLegal}
use Rattle.bt_history.specs.Assured.{Assures}
use Rattle.bt_history.proofs.Askers.{askers_few}
use Rattle.bt_history.proofs.Depths.{so_far_bounded}
use Rattle.bt_history.proofs.Endgame.{second_has_few}
use Rattle.bt_history.proofs.HeldLaws.{endgame_asks_all, had_facts, had_hash, held_unasked, second_in_endgame}
use Rattle.bt_history.proofs.Allowed.{flight_facts}
use Rattle.bt_history.proofs.Levels.{higher_first, level_bounded}
use Rattle.bt_history.proofs.LineLaws.{asked_and_due}
use Rattle.bt_history.proofs.Listed.{lists_asked}
use Rattle.bt_history.proofs.Opening.{few_open, leads_all}
use Rattle.bt_history.proofs.PickRules.{rule_told}
use Rattle.bt_history.proofs.Reaching.{request_reached}
use Rattle.bt_history.proofs.Sending.{sender_held}
use Rattle.bt_history.proofs.Owning.{own_unasked, works_apart}

pub assured : (s : Setting) (h : History) → IsLegal s h → Assures s h
assured s h legal = record {
  hashed = λ p is. ((had_facts s h p legal is).is_full, had_hash s h p legal is);
  spared = λ q b is. held_unasked s h q b legal is;
  sent = sender_held h;
  second = λ e b q allowed is too c inside want. endgame_asks_all s h c (second_in_endgame s h e q b legal allowed is too) inside want;
  rushed = λ e b q allowed is too. second_has_few s h e q b legal allowed is too;
  higher = λ e b allowed is. higher_first s h e b allowed is;
  reached = λ e b allowed is. request_reached s h e b allowed is;
  apart = λ e b allowed is works inside. works_apart s h e b allowed is works inside;
  owned = λ e b q allowed is lq other own. own_unasked s h e b q allowed is lq other own;
  ruled = λ e b allowed is. rule_told s h e b legal allowed is;
  opened = λ e b allowed is unordered fresh many. few_open s h e b allowed is unordered many fresh;
  rarest = λ e b allowed is unordered some room c inside fits same.
      (leads_all s h e b allowed is unordered legal some room c inside fits same).0;
  counted = λ e b allowed is. (flight_facts s h e b allowed is).counts;
  listed = λ q. lists_asked s h q legal;
  few = λ q. asked_and_due s h q legal;
  bounded = λ q. so_far_bounded s h q legal;
  askers = λ b some. askers_few s h b legal some;
  levels = λ p. level_bounded s h p legal;
}
