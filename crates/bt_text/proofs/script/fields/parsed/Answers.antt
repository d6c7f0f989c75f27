use Rattle.std.proofs.Common.{rules, true, false, ◌^◌, ◌≢◌, ◌∙◌, ◌≡◌, sym, get_or, ap}
use Rattle.bt_text.specs.Fields.{number_in}
use Rattle.bt_text.proofs.Numbers.{number_below-plus, number_below-not_utf8, number_in-parsed}
use Rattle.bt_text.proofs.Results.{held, failed}
use Rattle.bt_text.proofs.script.fields.parsed.Goals as goal

pub returns-then-has_plus : goal.returns-then-has_plus
returns-then-has_plus c = sym (number_below-plus (2 ^ 64) c.args.text.now (c.if-has_plus.ensures.0 (search rules)))

pub returns-in_err-ok : goal.returns-in_err-ok
returns-in_err-ok c =
    let none = sym c.ok.ensures.value ∙ c.in_err-ok.was in
    let bad = failed _ _ c.from_utf8.result none c.from_utf8.ensures.cases in
    c.from_residual.ensures ∙ sym (number_below-not_utf8 (2 ^ 64) c.args.text.now bad.1.0)

pub returns : goal.returns
returns c =
    let some = sym c.ok.ensures.value ∙ c.in_ok-ok.was in
    let same = (held _ _ c.from_utf8.result c.in_ok-ok.field-0 some c.from_utf8.ensures.cases).0 in
    let plain : get_or c.in_ok-ok.field-0.now 0 0 ≢ 43 = λ e. let bad : false ≡ true = c.if-has_plus.ensures.1 (rw same at e) in cc in
    c.ok-2.ensures.value ∙ (number_in-parsed c.in_ok-ok.field-0.now c.parse.result plain c.parse.ensures.value.0 ∙ ap number_in same)
