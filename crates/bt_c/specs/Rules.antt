-- The rules that a caller in C chooses, and those of a setting.
use Rattle.std.specs.Prelude.{◌==◌}
use Rattle.bt_history.specs.declared.rules.Rules.{Rules}
use Rattle.bt_history.specs.Setting.{Setting}
use Rattle.bt_c.specs.declared.options.Options.{Options}

-- the rules that the options say
abbrev pub rules : Options → Rules
rules o = record {
  depth = o.depth;
  random = o.random;
  askers = o.askers;
  deepest = o.deepest;
  «open» = o.«open»;
  rush = o.rush;
  shown = o.shown == 1;
}

-- the rules that a setting has
abbrev pub rules_of_setting : Setting → Rules
rules_of_setting s = record {
  depth = s.depth;
  random = s.random;
  askers = s.askers;
  deepest = s.deepest;
  «open» = s.most_open;
  rush = s.rush;
  shown = s.shown;
}
