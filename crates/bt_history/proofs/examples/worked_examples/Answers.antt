use Rattle.std.proofs.Common.{◌++◌, refl}
use Rattle.sha1.specs.Sha1.{sha1, first_words, schedule, rounds, compress, hash_after, digest_bytes}
use Rattle.bt_history.specs.Examples.{AreJudged, first_examples, second_examples, third_examples, fourth_examples}
use Rattle.bt_history.specs.Legal.{arrived_answer, settled_answer}
use Rattle.bt_history.specs.Next.{next_answer}
use Rattle.bt_history.specs.Peers.{joined, late, shows, is_open, outstanding, asked, overdue, due, told_depth, reach, alone}
use Rattle.bt_history.specs.Pieces.{kept, sender, had, level, order_from}
use Rattle.bt_history.proofs.Judging.{both_judged, judged}
use Rattle.bt_history.proofs.examples.worked_examples.Goals as goal

first : AreJudged first_examples
unfolding next_answer arrived_answer settled_answer joined late shows is_open outstanding asked overdue due told_depth reach alone kept sender had level order_from
    sha1 first_words schedule rounds compress hash_after digest_bytes
first = judged first_examples refl

second : AreJudged second_examples
unfolding next_answer arrived_answer settled_answer joined late shows is_open outstanding asked overdue due told_depth reach alone kept sender had level order_from
    sha1 first_words schedule rounds compress hash_after digest_bytes
second = judged second_examples refl

third : AreJudged third_examples
unfolding next_answer arrived_answer settled_answer joined late shows is_open outstanding asked overdue due told_depth reach alone kept sender had level order_from
    sha1 first_words schedule rounds compress hash_after digest_bytes
third = judged third_examples refl

fourth : AreJudged fourth_examples
unfolding next_answer arrived_answer settled_answer joined late shows is_open outstanding asked overdue due told_depth reach alone kept sender had level order_from
    sha1 first_words schedule rounds compress hash_after digest_bytes
fourth = judged fourth_examples refl

pub returns : goal.returns
returns c =
    both_judged first_examples (second_examples ++ (third_examples ++ fourth_examples)) first
    (both_judged second_examples (third_examples ++ fourth_examples) second
    (both_judged third_examples fourth_examples third fourth))
