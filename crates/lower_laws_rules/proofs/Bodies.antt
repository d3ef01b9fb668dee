-- Bodies of actions break no rule, under both rules of P4_14.
use Rattle.std.proofs.Common.{◌≡◌, ℕ, suc, ◌<◌, ◌≤◌, Bool, true, false, cond, Option, Some, None, List, [], ◌∷◌, ◌++◌, refl, ap, ◌∙◌, arith}
use Rattle.std.specs.List.{list_any}
use Rattle.p414_syntax.specs.declared.syntax.Decl.{Decl}
use Rattle.p414_syntax.specs.declared.syntax.Rule14.{Rule14}
use Rattle.p414_sem.specs.Operations.{cell, hashed, Primitive, write}
use Rattle.p416_syntax.specs.Tree.{Stmt16}
use Rattle.p416_syntax.specs.Names.{Name, repeats}
use Rattle.p416_syntax.specs.Kinds.{direct_counter}
use Rattle.p416_syntax.specs.Scopes.{Scope, in_action, an_object as object_sort}
use Rattle.p416_syntax.specs.Tables.{is_counted_by}
use Rattle.p416_syntax.specs.Externs.{are_allowed, is_some_position}
use Rattle.v1_core.specs.Frames.{of_headers, of_metadata, of_standard}
use Rattle.lower_laws_actions.specs.Apart.{needs_copies}
use Rattle.lower_laws_base.specs.Context.{Local, Lowering, words_of, object_at, HasRoot, Copies, now, entry, Sees, Spares, an_object}
use Rattle.lower_laws_base.specs.Mirror.{copies_stmt}
use Rattle.lower_laws_actions.specs.Mirror.{front, rest, in_order, fronts, rests, sequential_body, parallel_body, counts_first, body_stmt}
use Rattle.lower_laws_actions.specs.Fits.{IsObject, AllFit}
use Rattle.lower_laws_rules.specs.Keeping.{Part}
use Rattle.lower_laws_rules.specs.Standing.{Among, HasParameters}
use Rattle.lower_laws_rules.proofs.Parts.{part_none, part_then, nests_deeper}
use Rattle.lower_laws_rules.proofs.Sources.{part_copied}
use Rattle.lower_laws_rules.proofs.Externs.{part_count_entry}
use Rattle.lower_laws_rules.specs.Acting.{WidthsFit, PrimitiveStands, PrimitiveKnown}
use Rattle.lower_laws_actions.proofs.Lists.{free_of}
use Rattle.lower_laws_rules.proofs.Stepping.{Around, Went, went_none, went_behind, part_steps}
use Rattle.lower_laws_rules.proofs.Acts.{OfFront, OfRest, front_went, rest_went}

pub record Between (b e a i : ℕ) : Type 0 where
  pub from : b ≤ a
  pub to : a < e

abbrev pub AllStand : Lowering → List ℕ → List Primitive → Type 0
AllStand c positions [] = Unit {0}
AllStand c positions (p ∷ ps) = PrimitiveStands c positions p × AllStand c positions ps

abbrev AllKnown : Lowering → List Local → ℕ → List Primitive → Type 0
AllKnown c ls K [] = Unit {0}
AllKnown c ls K (p ∷ ps) = PrimitiveKnown c ls K p × AllKnown c ls (suc K) ps

still_known : (c : Lowering) (ls ks : List Local) (K : ℕ) (p : Primitive) → ((l : Local) → Among ls l → Among ks l) → PrimitiveKnown c ls K p → PrimitiveKnown c ks K p
still_known c ls ks K (write sums t (cell object i)) keeps known = keeps _ known
still_known c ls ks K (write sums t (hashed base calculation bound)) keeps known = keeps _ known
still_known c ls ks K (write sums t term) keeps known = tt
still_known c ls ks K p keeps known = tt

module _ (c : Lowering) (ds : List Decl) (widths : WidthsFit c) (positions : List ℕ) (allowed : are_allowed (2 ∷ 3 ∷ []) positions ≡ true) where
  -- one after another
  ordered_went : (K : ℕ) (ps : List Primitive) (s : Scope) (ls : List Local) → Around c positions s ls K K → AllFit c ds ps → AllStand c positions ps → (n : ℕ) × (K ≤ n) × Went c positions s ls n n (in_order ds (words_of c) K ps) (Between K n)
  ordered_went K [] s ls a fits stands = (K, omega arith, went_none a)
  ordered_went K (p ∷ ps) s ls a fits stands =
      let f = front_went c ds widths now tt positions allowed s ls K K a p fits.0 stands.0 in
      let r = rest_went c ds widths now tt positions allowed f.0.scope f.0.locals (suc K) K f.0.around p fits.0 stands.0 f.1 in
      let one : Went c positions s ls (suc K) (suc K) (front ds (words_of c) now K p ++ rest (words_of c) now K p) (Between K (suc K)) = went_behind (λ x i p q. let low = p.low in let is = q.is in absurd (omega (arith, low, is))) (λ x i p. record { from = p.from; to = p.to }) (λ x i p. record { from = p.from; to = p.to }) f.0 r in
      let more = ordered_went (suc K) ps one.scope one.locals one.around fits.1 stands.1 in
      let reach = more.1 in
      (more.0, omega (arith, reach), went_behind (λ x i p q. let to = p.to in let from = q.from in absurd (omega (arith, to, from))) (λ x i p. record { from = p.from; to = (let to = p.to in omega (arith, to, reach)) }) (λ x i p. record { from = (let from = p.from in omega (arith, from)); to = p.to }) one more.2)

  module _ (copies : Copies c) where
    fronts_went : (K d : ℕ) (ps : List Primitive) (s : Scope) (ls : List Local) → Around c positions s ls K d → AllFit c ds ps → AllStand c positions ps → (n : ℕ) × (K ≤ n) × (w : Went c positions s ls n d (fronts ds (words_of c) K ps) (OfFront K n)) × AllKnown c w.locals K ps
    fronts_went K d [] s ls a fits stands = (K, omega arith, went_none a, tt)
    fronts_went K d (p ∷ ps) s ls a fits stands =
        let f = front_went c ds widths entry copies positions allowed s ls K d a p fits.0 stands.0 in
        let more = fronts_went (suc K) d ps f.0.scope f.0.locals f.0.around fits.1 stands.1 in
        let reach = more.1 in
        let all : Went c positions s ls more.0 d (front ds (words_of c) entry K p ++ fronts ds (words_of c) (suc K) ps) (OfFront K more.0) = went_behind (λ x i p q. let to = p.to in let from = q.from in absurd (omega (arith, to, from))) (λ x i p. record { low = p.low; from = p.from; to = (let to = p.to in omega (arith, to, reach)) }) (λ x i p. record { low = p.low; from = (let from = p.from in omega (arith, from)); to = p.to }) f.0 more.2 in
        (more.0, omega (arith, reach), all, (still_known c f.0.locals more.2.locals K p more.2.keeps f.1, more.3))

    rests_went : (K b : ℕ) (ps : List Primitive) (s : Scope) (ls : List Local) → Around c positions s ls b K → AllFit c ds ps → AllStand c positions ps → AllKnown c ls K ps → (n : ℕ) × (K ≤ n) × Went c positions s ls b n (rests (words_of c) K ps) (OfRest K n)
    rests_went K b [] s ls a fits stands known = (K, omega arith, went_none a)
    rests_went K b (p ∷ ps) s ls a fits stands known =
        let r = rest_went c ds widths entry copies positions allowed s ls b K a p fits.0 stands.0 known.0 in
        let more = rests_went (suc K) b ps r.scope r.locals r.around fits.1 stands.1 (all_still ps (suc K) r.locals r.keeps known.1) in
        let reach = more.1 in
        (more.0, omega (arith, reach), went_behind (λ x i p q. let to = p.to in let from = q.from in absurd (omega (arith, to, from))) (λ x i p. record { is = p.is; from = p.from; to = (let to = p.to in omega (arith, to, reach)) }) (λ x i p. record { is = p.is; from = (let from = p.from in omega (arith, from)); to = p.to }) r more.2) where
          all_still : (qs : List Primitive) (J : ℕ) (ks : List Local) → ((l : Local) → Among ls l → Among ks l) → AllKnown c ls J qs → AllKnown c ks J qs
          all_still [] J ks keeps known = tt
          all_still (q ∷ qs) J ks keeps known = (still_known c ls ks J q keeps known.0, all_still qs (suc J) ks keeps known.1)

  -- a body, with the names that it declares

  pub record BodyKeeps (s : Scope) (x : Stmt16) : Type 0 where
    pub scope : Scope
    pub names : List Name
    pub part : Part s scope names 1 x
    pub once : repeats names ≡ false

  module _ (s : Scope) (ls : List Local) (sees : Sees c s ls) (given : HasParameters c ls) (spares : Spares c ls 0) (at : s.positions ≡ positions) (ps : List Primitive) (fits : AllFit c ds ps) (stands : AllStand c positions ps) where
    around : Around c positions s ls 0 0
    around = record { sees = sees; given = given; free = free_of c ls spares; at = at }

    pub sequential_kept : (x : Stmt16) → Part s s [] 0 x → BodyKeeps s (sequential_body ds (words_of c) x ps)
    sequential_kept x p =
        let w = ordered_went 0 ps s ls around fits stands in
        record { scope = w.2.scope; names = w.2.names; part = part_steps s s w.2.scope x _ [] w.2.names (nests_deeper 1 (omega arith) p) w.2.steps; once = w.2.declared.once }

    pub parallel_kept : Copies c → HasRoot c.layout of_headers → HasRoot c.layout of_metadata → HasRoot c.layout of_standard → (x : Stmt16) → Part s s [] 0 x → BodyKeeps s (parallel_body ds (words_of c) x ps)
    parallel_kept copies h m t x p =
        let f = fronts_went copies 0 0 ps s ls around fits stands in
        let r = rests_went copies 0 f.0 ps f.2.scope f.2.locals f.2.around fits stands f.3 in
        let all : Went c positions s ls f.0 r.0 (fronts ds (words_of c) 0 ps ++ rests (words_of c) 0 ps) (λ a i. Unit {0}) = went_behind (λ x i p q. let low = p.low in let is = q.is in absurd (omega (arith, low, is))) (λ x i p. tt) (λ x i p. tt) f.2 r.2 in
        let copied : Part s s [] 0 (copies_stmt (words_of c) x) = part_then (part_then (part_then p (part_copied c s ls sees of_headers h copies)) (part_copied c s ls sees of_metadata m copies)) (part_copied c s ls sees of_standard t copies) in
        record { scope = all.scope; names = all.names; part = part_steps s s all.scope (copies_stmt (words_of c) x) _ [] all.names (nests_deeper 1 (omega arith) copied) all.steps; once = all.declared.once }

  -- what is asked beside where copies are needed
  abbrev pub Entered : Rule14 → List Primitive → Type 0
  Entered rule ps = needs_copies ds rule ps ≡ true → Copies c × HasRoot c.layout of_headers × HasRoot c.layout of_metadata × HasRoot c.layout of_standard

  -- the copy of an action for a table with a direct counter: the table of the counter lists the action
  abbrev pub CountsFirst : Scope → Name → Option ℕ → Type 0
  CountsFirst s action None = Unit {0}
  CountsFirst s action (Some j) = IsObject c direct_counter j × (s.part ≡ in_action action) × (is_some_position s.positions ≡ true) × (list_any (is_counted_by (object_at c.objects j).called action) s.names ≡ true)

  first_part : (s : Scope) (ls : List Local) → Sees c s ls → (action : Name) (counter : Option ℕ) → CountsFirst s action counter → Part s s [] 0 (counts_first (words_of c) counter)
  first_part s ls sees action None is = part_none
  first_part s ls sees action (Some j) is = part_then part_none (part_count_entry action (sees.declares.named (an_object j) is.0.0 ∙ ap (λ k. object_sort k) is.0.1) is.1 is.2 is.3)

  pub body_keeps : (s : Scope) (ls : List Local) (sees : Sees c s ls) → HasParameters c ls → Spares c ls 0 → s.positions ≡ positions → (ps : List Primitive) → AllFit c ds ps → AllStand c positions ps → (action : Name) (counter : Option ℕ) → CountsFirst s action counter → (rule : Rule14) → Entered rule ps → BodyKeeps s (body_stmt ds (words_of c) rule counter ps)
  body_keeps s ls sees given spares at ps fits stands action counter counts rule is = by (needs_copies ds rule ps) refl where
    first : Part s s [] 0 (counts_first (words_of c) counter)
    first = first_part s ls sees action counter counts

    by : (b : Bool) → needs_copies ds rule ps ≡ b → BodyKeeps s (cond b (parallel_body ds (words_of c) (counts_first (words_of c) counter) ps) (sequential_body ds (words_of c) (counts_first (words_of c) counter) ps))
    by true needs = let has = is needs in parallel_kept s ls sees given spares at ps fits stands has.0 has.1 has.2 has.3 (counts_first (words_of c) counter) first
    by false needs = sequential_kept s ls sees given spares at ps fits stands (counts_first (words_of c) counter) first
