use Rattle.std.proofs.Common.{[], refl, inl, rules}
use Rattle.bt_session.proofs.Told.{puts_gains}
use Rattle.bt_session.proofs.pass_place.PassPlacePlace.completed.Goals as goal

pub returns-then-not-puts-clause-ok : goal.returns-then-not-puts-clause-ok
returns-then-not-puts-clause-ok g c =
    rw (← c.self.view_is) (
      [],
      (
        inl refl,
        puts_gains g.L.RunName.setting c.self.inside.worker c.puts.new.worker c.self.inside.lacked c.puts.result _
            c.puts.ensures,
      ),
    )

pub returns-else-not-puts-clause-ok : goal.returns-else-not-puts-clause-ok
returns-else-not-puts-clause-ok g c =
    rw (← c.self.view_is) (
      [],
      (
        inl refl,
        puts_gains g.L.RunName.setting c.self.inside.worker c.puts.new.worker c.self.inside.lacked c.puts.result _
            c.puts.ensures,
      ),
    )

pub returns-else-not-puts-clause-puts : goal.returns-else-not-puts-clause-puts
returns-else-not-puts-clause-puts g c = search rules fits 100

pub returns-then-not-puts-clause-puts : goal.returns-then-not-puts-clause-puts
returns-then-not-puts-clause-puts g c = search rules fits 100
