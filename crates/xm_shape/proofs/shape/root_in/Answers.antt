use Rattle.std.proofs.Common.{◌≡◌, true, ℕ, List, Option, Some, None, Result, Ok, refl, codes, ◌∙◌, sym}
use Rattle.std.specs.Prelude.{is_some}
use Rattle.std.proofs.lemmas.Result.{err_from_is_err_and}
use Rattle.serde_json.specs.Data.{Data}
use Rattle.serde_json.specs.Find.{as_object}
use Rattle.serde_json.specs.View.{view}
use Rattle.xm_json.specs.Gives.{path_of}
use Rattle.xm_json.specs.Members.{only}
use Rattle.xm_json.specs.Path.{Path}
use Rattle.xm_json.specs.Lemmas.StepFacts.{Fails-bind}
use Rattle.xm_model.specs.Steps.{◌>>=◌, demand}
use Rattle.xm_shape.specs.NamedNet.{AllowEntry}
use Rattle.xm_shape.specs.Names.{Name}
use Rattle.xm_shape.specs.Shape.{allow_in, colours_in, primitives_in, root_in, root_members, version_in}
use Rattle.xm_shape.proofs.shape.root_in.Goals as goal

demanded : {A B : Type 0} (o : Option A) (e : Path) (step : Result B Path) → is_some o ≡ true → (demand o e >>= λ _. step) ≡ step
demanded None e step some = absurd cc
demanded (Some x) e step some = refl

to_only : (d : Data) (version : ℕ) (colours : List Name) (items : List Data) (allow : List AllowEntry) → is_some (as_object d) ≡ true → version_in d ≡ Ok version → colours_in d ≡ Ok colours → primitives_in d ≡ Ok items → allow_in d ≡ Ok allow
    → root_in d ≡ (only (codes "-") root_members d >>= λ _. Ok (record { version = version; colours = colours; items = items; allow = allow }))
unfolding root_in
to_only d version colours items allow object v cs ps al = demanded (as_object d) (codes "-") _ object ∙ rw (v, cs, ps, al) refl

pub returns-in_err-only : goal.returns-in_err-only
returns-in_err-only c =
    let p = err_from_is_err_and c.from_residual-in_err-only.result c.from_residual-in_err-only.ensures.1 in
    let steps = to_only (view c.args.root.now) _ _ _ _ (sym c.is_object.ensures ∙ c.if-not-is_object.false) c.in_ok-version.ensures c.in_ok-colours.ensures c.in_ok-items.ensures c.in_ok-allow.ensures in
    rw (p.1, p.2, steps) (Fails-bind path_of c.in_err-only.field-0.0 _ _ c.in_err-only.ensures)

pub returns : goal.returns
returns c =
    let steps = to_only (view c.args.root.now) _ _ _ _ (sym c.is_object.ensures ∙ c.if-not-is_object.false) c.in_ok-version.ensures c.in_ok-colours.ensures c.in_ok-items.ensures c.in_ok-allow.ensures in
    steps ∙ rw (c.in_ok-only.ensures) refl
