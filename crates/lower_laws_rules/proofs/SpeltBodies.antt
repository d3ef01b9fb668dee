-- Bodies of actions are spelt, under both rules of P4_14.
use Rattle.std.proofs.Common.{ℕ, suc, Bool, true, false, cond, Option, Some, None, List, [], ◌∷◌, ◌++◌, refl}
use Rattle.p414_syntax.specs.declared.syntax.Decl.{Decl}
use Rattle.p414_syntax.specs.declared.syntax.Rule14.{Rule14}
use Rattle.p414_sem.specs.Operations.{Primitive}
use Rattle.p416_syntax.specs.Conditions.{statements}
use Rattle.p416_syntax.specs.Tree.{Stmt16}
use Rattle.lower_laws_actions.specs.Apart.{needs_copies}
use Rattle.lower_laws_base.specs.Context.{Lowering, words_of, now, entry}
use Rattle.lower_laws_base.specs.Mirror.{copies_stmt}
use Rattle.lower_laws_actions.specs.Mirror.{front, rest, in_order, fronts, rests, sequential_body, parallel_body, counts_first, body_stmt}
use Rattle.lower_laws_actions.specs.Fits.{AllFit}
use Rattle.lower_laws_rules.specs.Spelling.{SpeltStmt}
use Rattle.lower_laws_rules.specs.Acting.{WidthsFit}
use Rattle.lower_laws_rules.proofs.Bodies.{AllStand}
use Rattle.lower_laws_rules.proofs.SpeltActs.{AllSpelt, SpeltMore, HashFits, all_behind, spelt_behind, front_spelt, rest_spelt}
use Rattle.lower_laws_actions.specs.Actions.{CounterIs}

abbrev pub AllHash : List Primitive → Type 0
AllHash [] = Unit {0}
AllHash (p ∷ ps) = HashFits p × AllHash ps

module _ (c : Lowering) (ds : List Decl) (widths : WidthsFit c) (facts : SpeltMore c) (positions : List ℕ) where
  ordered : (K : ℕ) (ps : List Primitive) → AllFit c ds ps → AllStand c positions ps → AllHash ps → AllSpelt (in_order ds (words_of c) K ps)
  ordered K [] fits stands hash = tt
  ordered K (p ∷ ps) fits stands hash =
      all_behind (front ds (words_of c) now K p ++ rest (words_of c) now K p) (in_order ds (words_of c) (suc K) ps)
      (all_behind (front ds (words_of c) now K p) (rest (words_of c) now K p) (front_spelt c ds widths facts now K positions p fits.0 stands.0 hash.0) (rest_spelt c ds widths facts now K p fits.0))
      (ordered (suc K) ps fits.1 stands.1 hash.1)

  all_fronts : (K : ℕ) (ps : List Primitive) → AllFit c ds ps → AllStand c positions ps → AllHash ps → AllSpelt (fronts ds (words_of c) K ps)
  all_fronts K [] fits stands hash = tt
  all_fronts K (p ∷ ps) fits stands hash = all_behind (front ds (words_of c) entry K p) (fronts ds (words_of c) (suc K) ps) (front_spelt c ds widths facts entry K positions p fits.0 stands.0 hash.0) (all_fronts (suc K) ps fits.1 stands.1 hash.1)

  all_rests : (K : ℕ) (ps : List Primitive) → AllFit c ds ps → AllSpelt (rests (words_of c) K ps)
  all_rests K [] fits = tt
  all_rests K (p ∷ ps) fits = all_behind (rest (words_of c) entry K p) (rests (words_of c) (suc K) ps) (rest_spelt c ds widths facts entry K p fits.0) (all_rests (suc K) ps fits.1)

  pub sequential_spelt : (x : Stmt16) (ps : List Primitive) → SpeltStmt statements x → AllFit c ds ps → AllStand c positions ps → AllHash ps → SpeltStmt statements (sequential_body ds (words_of c) x ps)
  sequential_spelt x ps a fits stands hash = spelt_behind x (in_order ds (words_of c) 0 ps) a (ordered 0 ps fits stands hash)

  pub parallel_spelt : (x : Stmt16) (ps : List Primitive) → SpeltStmt statements x → AllFit c ds ps → AllStand c positions ps → AllHash ps → SpeltStmt statements (parallel_body ds (words_of c) x ps)
  parallel_spelt x ps a fits stands hash =
      let new = (facts.words entry).roots in
      let old = (facts.words now).roots in
      spelt_behind (copies_stmt (words_of c) x) (fronts ds (words_of c) 0 ps ++ rests (words_of c) 0 ps) (((a, (new.0, old.0)), (new.1, old.1)), (new.2, old.2))
      (all_behind (fronts ds (words_of c) 0 ps) (rests (words_of c) 0 ps) (all_fronts 0 ps fits stands hash) (all_rests 0 ps fits))

  first_spelt : (counter : Option ℕ) → CounterIs c counter → SpeltStmt statements (counts_first (words_of c) counter)
  first_spelt None is = tt
  first_spelt (Some j) is = (tt, (((facts.objects j is.0, refl), tt), refl))

  pub body_spelt : (ps : List Primitive) → AllFit c ds ps → AllStand c positions ps → AllHash ps → (counter : Option ℕ) → CounterIs c counter → (rule : Rule14) → SpeltStmt statements (body_stmt ds (words_of c) rule counter ps)
  body_spelt ps fits stands hash counter is rule = by (needs_copies ds rule ps) where
    by : (b : Bool) → SpeltStmt statements (cond b (parallel_body ds (words_of c) (counts_first (words_of c) counter) ps) (sequential_body ds (words_of c) (counts_first (words_of c) counter) ps))
    by true = parallel_spelt (counts_first (words_of c) counter) ps (first_spelt counter is) fits stands hash
    by false = sequential_spelt (counts_first (words_of c) counter) ps (first_spelt counter is) fits stands hash
