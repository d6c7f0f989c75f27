use Rattle.std.proofs.Common.{◌≡◌, arith}
use Rattle.std.proofs.lemmas.Grind.{common_steps}
use Rattle.bt_cli.proofs.threads.play_threads.Goals as goal

pub returns-clause-ran : goal.returns-clause-ran
returns-clause-ran g c = λ t. λ is.
    let run = c.in_ok-ran.ran.run in
    let made = c.in_ok-ran.ensures.ran in
    let same : c.in_ok-ran.ran.torrent.value ≡ t = cc (is, made.is_torrent) in
    rw (← same) record {
      ends = run.ends.items;
      short = run.short;
      left = run.streams.items;
      run = rw made.is_torrent at made;
      told = rw c.deref.ensures.value at c.tell-ended.ensures;
    }

pub returns-clause-setting : goal.returns-clause-setting
returns-clause-setting g c = grind (arith, common_steps)
