-- One turn of the way from the outside in.
use Rattle.std.proofs.Common.{◌≡◌, ℕ, suc, ◌+◌, ◌<◌, Option, Result, Ok, Err, OnOk, List, ◌∷◌, ◌++◌, length, drop, get_or, sym, ap, ◌∙◌, arith, append_assoc}
use Rattle.std.specs.Prelude.{option_to_list}
use Rattle.std.proofs.Math.Seq.{drop-cons}
use Rattle.std.proofs.lemmas.List.{map-append}
use Rattle.p416_syntax.specs.Tree.{Exp16}
use Rattle.p416_syntax.specs.Names.{Name}
use Rattle.p416_syntax.specs.Scopes.{Scope}
use Rattle.p416_typing.specs.Rows.{row_of}
use Rattle.v1_ready_forms.specs.Named.{NamedSeat}
use Rattle.v1_ready_program.specs.internal.Passes.{Ask, front, behind_front}
use Rattle.v1_ready_nodes.specs.Held.{Held, Grows}
use Rattle.v1_ready_operands.specs.declared.found.Found.{Found as CodeFound}
use Rattle.v1_ready_operands.specs.internal.Coded.{seen_found, seen_founds, AreFoundIn}
use Rattle.v1_ready_operands.specs.internal.SourcePasses.{Found, found_of, source_parts, founds}
use Rattle.v1_ready_operands.proofs.KeepingSources.{founds_kept}

pub on_ok : {T E A B : Type 0} (r : Result T E) → (A → B) → OnOk r A → OnOk r B
on_ok (Ok x) f a = f a
on_ok (Err e) f a = tt

next : (views : List Exp16) (i : ℕ) (v : Exp16) → i < length views → v ≡ get_or views i v → drop i views ≡ v ∷ drop (i + 1) views
next views i v within is =
    let one : suc i ≡ i + 1 = omega arith in
    drop-cons views i v within ∙ (ap (λ x. x ∷ drop (suc i) views) (sym is) ∙ ap (λ n. v ∷ drop n views) one)

pub found_turn : (s : Scope) (seats : List NamedSeat) (tables : Name → Option ℕ) (h g : Held) (views : List Exp16) (i : ℕ) (v : Exp16) (made now : List CodeFound) (found : Option CodeFound) (qs rs : List Ask) (whole : List Found) → Grows h g → AreFoundIn h made → i < length views
    → v ≡ get_or views i v → now ≡ made ++ option_to_list found → seen_founds g (option_to_list found) ≡ found_of s seats tables (front qs) v → rs ≡ source_parts (row_of s v) (front qs) v ++ behind_front qs
    → seen_founds h made ++ founds s seats tables qs (drop i views) ≡ whole → seen_founds g now ++ founds s seats tables rs (drop (i + 1) views) ≡ whole
found_turn s seats tables h g views i v made now found qs rs whole grows among within is pushed found_is asks so =
    let behind = founds s seats tables (source_parts (row_of s v) (front qs) v ++ behind_front qs) (drop (i + 1) views) in
    ap (λ q. seen_founds g now ++ founds s seats tables q (drop (i + 1) views)) asks
    ∙ (ap (λ fs. seen_founds g fs ++ behind) pushed
    ∙ (ap (λ fs. fs ++ behind) (map-append (seen_found g) made (option_to_list found))
    ∙ (append_assoc (seen_founds g made) (seen_founds g (option_to_list found)) behind
    ∙ (ap (λ fs. seen_founds g made ++ (fs ++ behind)) found_is
    ∙ (ap (λ fs. fs ++ (found_of s seats tables (front qs) v ++ behind)) (founds_kept h g grows made among)
    ∙ (sym (ap (λ es. seen_founds h made ++ founds s seats tables qs es) (next views i v within is)) ∙ so))))))
