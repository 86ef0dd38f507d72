use mathlib.Core.Path.{refl, sym, ◌∙◌}
use Rattle.std.proofs.Common.{Ok}
use Rattle.std.proofs.lemmas.Result.{err_from_is_err_and}
use Rattle.load.specs.Serving.Named.{opened_four}
use Rattle.load.specs.Serving.Stages.{opened_as, opened_all}
use Rattle.load.proofs.TopLaws.{passes, finds, gives, given_at}
use Rattle.load.proofs.open_all.Goals as goal

pub returns-in_err-open : goal.returns-in_err-open
unfolding opened_as opened_all
returns-in_err-open c =
    let p = err_from_is_err_and c.from_residual.result c.from_residual.ensures.1 in
    rw (p.1, p.2) (sym (finds _ _ _ _ _ (sym c.open.ensures ∙ c.in_err-open.was)))

pub returns-in_err-open-2 : goal.returns-in_err-open-2
unfolding opened_as opened_all
returns-in_err-open-2 c =
    let p = err_from_is_err_and c.from_residual-in_err-open-2.result c.from_residual-in_err-open-2.ensures.1 in
    rw (p.1, p.2) (sym (passes _ _ _ _ _ (sym c.open.ensures ∙ c.in_ok-open.was)
    ∙ finds _ _ _ _ _ (sym c.open-2.ensures ∙ c.in_err-open-2.was)))

pub returns-in_err-open-3 : goal.returns-in_err-open-3
unfolding opened_as opened_all
returns-in_err-open-3 c =
    let p = err_from_is_err_and c.from_residual-in_err-open-3.result c.from_residual-in_err-open-3.ensures.1 in
    rw (p.1, p.2) (sym (passes _ _ _ _ _ (sym c.open.ensures ∙ c.in_ok-open.was)
    ∙ passes _ _ _ _ _ (sym c.open-2.ensures ∙ c.in_ok-open-2.was)
    ∙ finds _ _ _ _ _ (sym c.open-3.ensures ∙ c.in_err-open-3.was)))

pub returns-in_err-open-4 : goal.returns-in_err-open-4
unfolding opened_as opened_all
returns-in_err-open-4 c =
    let p = err_from_is_err_and c.from_residual-in_err-open-4.result c.from_residual-in_err-open-4.ensures.1 in
    rw (p.1, p.2) (sym (passes _ _ _ _ _ (sym c.open.ensures ∙ c.in_ok-open.was)
    ∙ passes _ _ _ _ _ (sym c.open-2.ensures ∙ c.in_ok-open-2.was)
    ∙ passes _ _ _ _ _ (sym c.open-3.ensures ∙ c.in_ok-open-3.was)
    ∙ finds _ _ _ _ _ (sym c.open-4.ensures ∙ c.in_err-open-4.was)))

pub returns : goal.returns
unfolding opened_as opened_all opened_four
returns c =
    let a = gives _ _ _ (sym c.open.ensures ∙ c.in_ok-open.was) in
    let b = gives _ _ _ (sym c.open-2.ensures ∙ c.in_ok-open-2.was) in
    let d = gives _ _ _ (sym c.open-3.ensures ∙ c.in_ok-open-3.was) in
    let e = gives _ _ _ (sym c.open-4.ensures ∙ c.in_ok-open-4.was) in
    (λ i. Ok (record { edg = sym a i; fac = sym b i; rng = sym d i; cnd = sym e i }))
    ∙ sym (passes _ _ _ _ _ (sym c.open.ensures ∙ c.in_ok-open.was)
    ∙ passes _ _ _ _ _ (sym c.open-2.ensures ∙ c.in_ok-open-2.was)
    ∙ passes _ _ _ _ _ (sym c.open-3.ensures ∙ c.in_ok-open-3.was)
    ∙ passes _ _ _ _ _ (sym c.open-4.ensures ∙ c.in_ok-open-4.was)
    ∙ given_at _ _ refl)
