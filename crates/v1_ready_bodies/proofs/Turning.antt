-- Variables are put in front from the last one on.
use Rattle.std.proofs.Common.{◌≡◌, ℕ, suc, ◌-◌, ◌<◌, ◌≤◌, List, ◌∷◌, length, drop, get_or, Option, sym, ap, ◌∙◌, arith}
use Rattle.std.proofs.Math.Seq.{drop-cons}
use Rattle.p416_syntax.specs.Scopes.{Scope}
use Rattle.v1_ready_forms.specs.Named.{NamedSeat}
use Rattle.v1_ready_blocks.specs.Statements.{Statement, sequence}
use Rattle.v1_ready_statements.specs.Around.{Around}
use Rattle.v1_ready_statements.specs.Statements.{both_ready, start_ready}
use Rattle.v1_ready_bodies.specs.declared.variables.OwnVariable.{OwnVariable}
use Rattle.v1_ready_bodies.specs.Variables.{initial_before, starts_ready, initials_ready}

dropped : {A : Type 0} (xs : List A) (left : ℕ) (d : A) → 0 < left → left ≤ length xs → drop (left - 1) xs ≡ get_or xs (left - 1) d ∷ drop left xs
dropped xs left d some within =
    let next : suc (left - 1) ≡ left = omega arith in
    drop-cons xs (left - 1) d (omega arith) ∙ ap (λ n. get_or xs (left - 1) d ∷ drop n xs) next

pub starts_turn : (b : Around) (s : Scope) (vs : List OwnVariable) (left : ℕ) (v d : OwnVariable) (rest old new : Option Statement) → 0 < left → left ≤ length vs → v ≡ get_or vs (left - 1) d
    → old ≡ starts_ready b s (drop left vs) rest → new ≡ both_ready sequence (start_ready b s v.number) old → new ≡ starts_ready b s (drop (left - 1) vs) rest
starts_turn b s vs left v d rest old new some within is held so =
    so
    ∙ (ap (λ (x : OwnVariable). both_ready sequence (start_ready b s x.number) old) is
    ∙ (ap (both_ready sequence (start_ready b s (get_or vs (left - 1) d).number)) held
    ∙ sym (ap (λ xs. starts_ready b s xs rest) (dropped vs left d some within))))

pub initials_turn : (b : Around) (s : Scope) (seats : List NamedSeat) (vs : List OwnVariable) (left : ℕ) (v d : OwnVariable) (rest old new : Option Statement) → 0 < left → left ≤ length vs → v ≡ get_or vs (left - 1) d
    → old ≡ initials_ready b s seats (drop left vs) rest → new ≡ initial_before b s seats v.number v.var.now v.var.now.initial old → new ≡ initials_ready b s seats (drop (left - 1) vs) rest
initials_turn b s seats vs left v d rest old new some within is held so =
    so
    ∙ (ap (λ (x : OwnVariable). initial_before b s seats x.number x.var.now x.var.now.initial old) is
    ∙ (ap (initial_before b s seats (get_or vs (left - 1) d).number (get_or vs (left - 1) d).var.now (get_or vs (left - 1) d).var.now.initial) held
    ∙ sym (ap (λ xs. initials_ready b s seats xs rest) (dropped vs left d some within))))
