-- T7 by C9: each edge of the graph of idle states is one of P4_14.
use Rattle.std.proofs.Common.{◌≡◌, ◌≢◌, inl, inr, ℕ, zero, suc, ◌+◌, ◌-◌, Bool, true, false, cond, List, [], ◌∷◌, ◌++◌, length, map, filter_map, Option, Some, None, refl, sym, ap, ◌∙◌, subst, arith}
use Rattle.std.specs.Prelude.{option_map, slice_get, slice_index_or, Contains}
use Rattle.std.specs.List.{AllByRecursion, cons_option}
use Rattle.std.specs.Option.{option_map_or}
use Rattle.std.proofs.lemmas.Option.{slice_get-map}
use Rattle.digraph.specs.Graphs.{Among, IsEdge}
use Rattle.digraph.specs.Expansions.{HasCycle}
use Rattle.p414_syntax.specs.declared.parsers.Parser.{Parser}
use Rattle.p414_syntax.specs.declared.syntax.Decl.{Decl}
use Rattle.p414_syntax.specs.Names.{Name}
use Rattle.p414_syntax.specs.Uses.{last_of}
use Rattle.p414_syntax.specs.ParserGraph.{states, state_number, extracts_in, targets_of, next_in, extracts_of, next_of, HasIdleCycle}
use Rattle.p416_syntax.specs.declared.parsers.State.{State}
use Rattle.p416_syntax.specs.declared.parsers.Parser16.{Parser16}
use Rattle.p416_syntax.specs.Tree.{no_statements}
use Rattle.p416_syntax.specs.ParserStates.{extracts, targets_of as targets16, state_number as number16, idle_next, idle_graph}
use Rattle.lower_laws_parser.specs.Words.{ParserWords, state_of}
use Rattle.lower_laws_rules.proofs.Controls.{idle_shown}
use Rattle.lower_laws_block_rules.proofs.Idle.{contains_of, body_idle, Leads, end_leads, AreOther, number_behind}
use Rattle.lower_laws_states.specs.Expansions.{Has}

-- the state at the beginning of an edge
start_of : (S xs : List State) (a b : ℕ) → Among b (slice_index_or (map (idle_next S) xs) a []) → (x : State) × (slice_get xs a ≡ Some x) × Among b (idle_next S x)
start_of S [] a b among = absurd among
start_of S (x ∷ xs) zero b among = (x, refl, among)
start_of S (x ∷ xs) (suc a) b among = start_of S xs a b among

-- it extracts nothing, and leads there
idle_edge : (S : List State) (x : State) (b : ℕ) → Among b (idle_next S x) → (extracts x.body ≡ false) × Among b (filter_map (number16 S) (targets16 x.transition))
idle_edge S x b among = by (extracts x.body) refl among where
  by : (e : Bool) → extracts x.body ≡ e → Among b (cond e [] (filter_map (number16 S) (targets16 x.transition))) → (extracts x.body ≡ false) × Among b (filter_map (number16 S) (targets16 x.transition))
  by true e among = absurd among
  by false e among = (e, among)

module _ (ds : List Decl) (p : ParserWords) (differ : (a b : Name) → a ≢ b → p.state a ≢ p.state b) (front : List State) (other : AreOther ds p differ front) where
  abbrev ys : List Parser
  ys = states ds

  abbrev all : List State
  all = front ++ map (state_of ds p) ys

  -- a number to which a state leads is that of a state of P4_14, behind those in front
  record Numbered (to : List Name) (b : ℕ) : Type 0 where
    called : Name
    has : Has to called
    number : ℕ
    is : state_number ds called ≡ Some number
    shifts : b ≡ length front + number

  numbered : (to texts : List Name) (b : ℕ) → Leads ds p differ to texts → Among b (filter_map (number16 all) texts) → Numbered to b
  numbered to [] b leads among = absurd among
  numbered to (text ∷ texts) b leads among = by (number16 all text) refl among (numbered to texts b leads.1) where
    found : (o : Option ℕ) → state_number ds leads.0.0 ≡ o → (m : ℕ) → option_map (λ n. length front + n) o ≡ Some m → b ≡ m → Numbered to b
    found None e m is same = absurd (cc is)
    found (Some n) e m is same = record { called = leads.0.0; has = leads.0.2; number = n; is = e; shifts = same ∙ sym (by_some (length front + n) m is) } where
      by_some : (i j : ℕ) → Some i ≡ Some j → i ≡ j
      by_some i j e = cc e

    by : (o : Option ℕ) → number16 all text ≡ o → Among b (cons_option o (filter_map (number16 all) texts)) → (Among b (filter_map (number16 all) texts) → Numbered to b) → Numbered to b
    by None e among more = more among
    by (Some m) e (inr among) more = more among
    by (Some m) e (inl same) more =
        found (state_number ds leads.0.0) refl m (sym (number_behind ds p differ front ys other leads.0.0) ∙ (ap (number16 all) (sym leads.0.1) ∙ e)) same

  numbers_in : (to : List Name) (called : Name) (n : ℕ) → Has to called → state_number ds called ≡ Some n → Among n (filter_map (state_number ds) to)
  numbers_in [] called n has is = absurd has
  numbers_in (x ∷ to) called n (inl same) is =
      subst (λ (o : Option ℕ). Among n (cons_option o (filter_map (state_number ds) to))) (sym (ap (state_number ds) same ∙ is)) (inl refl)
  numbers_in (x ∷ to) called n (inr more) is = past (state_number ds x) (numbers_in to called n more is) where
    past : (o : Option ℕ) → Among n (filter_map (state_number ds) to) → Among n (cons_option o (filter_map (state_number ds) to))
    past None among = among
    past (Some m) among = inr among

  -- behind those in front stands the state of P4_14 with that number
  behind_front : (xs : List State) (n : ℕ) (x : State) → slice_get (xs ++ map (state_of ds p) ys) (length xs + n) ≡ Some x → slice_get (map (state_of ds p) ys) n ≡ Some x
  behind_front [] n x e = let none : n ≡ 0 + n = omega arith in ap (slice_get (map (state_of ds p) ys)) none ∙ e
  behind_front (y ∷ xs) n x e = let one : suc (length xs + n) ≡ length (y ∷ xs) + n = omega arith in behind_front xs n x (ap (slice_get (y ∷ xs ++ map (state_of ds p) ys)) one ∙ e)

  written : (n : ℕ) (x : State) → slice_get (map (state_of ds p) ys) n ≡ Some x → (y : Parser) × (slice_get ys n ≡ Some y) × (x ≡ state_of ds p y)
  written n x e = by (slice_get ys n) refl (sym (slice_get-map (state_of ds p) ys n) ∙ e) where
    by : (o : Option Parser) → slice_get ys n ≡ o → option_map (state_of ds p) o ≡ Some x → (y : Parser) × (slice_get ys n ≡ Some y) × (x ≡ state_of ds p y)
    by None is e = absurd (cc e)
    by (Some y) is e = (y, is, cc e)

  -- all that stands in front leads to such states, too
  abbrev pub FrontLeads : List State → Type 0
  FrontLeads xs = AllByRecursion (λ x. (to : List Name) × Leads ds p differ to (targets16 x.transition)) xs

  each_leads : (xs : List State) (zs : List Parser) → FrontLeads xs → FrontLeads (xs ++ map (state_of ds p) zs)
  each_leads [] [] leads = tt
  each_leads [] (z ∷ zs) leads = ((targets_of z.end, end_leads ds p differ (last_of None z.statements) z.end), each_leads [] zs tt)
  each_leads (x ∷ xs) zs leads = (leads.0, each_leads xs zs leads.1)

  leads_at : (xs : List State) (a : ℕ) (x : State) → FrontLeads xs → slice_get xs a ≡ Some x → (to : List Name) × Leads ds p differ to (targets16 x.transition)
  leads_at [] a x leads e = absurd (cc e)
  leads_at (y ∷ xs) zero x leads e = let same : y ≡ x = cc e in subst (λ (z : State). (to : List Name) × Leads ds p differ to (targets16 z.transition)) same leads.0
  leads_at (y ∷ xs) (suc a) x leads e = leads_at xs a x leads.1 e

  -- what a state of P4_14 leads to, where its state extracts nothing
  from_state : (n : ℕ) (y : Parser) → slice_get ys n ≡ Some y → (b : ℕ) → Among b (idle_next all (state_of ds p y)) → Contains (next_of ds n) (b - length front) × (extracts_of ds n ≡ [])
  from_state n y there b among =
      let idle = idle_edge all (state_of ds p y) b among in
      let to = numbered (targets_of y.end) (targets16 (state_of ds p y).transition) b (end_leads ds p differ (last_of None y.statements) y.end) idle.1 in (
        reached (slice_get ys n) there to.number (b - length front) (let e = to.shifts in omega (arith, e)) (numbers_in (targets_of y.end) to.called to.number to.has to.is),
        ap (λ (o : Option Parser). option_map_or (extracts_in ds) o []) there ∙ (body_idle ds p differ None no_statements y.statements idle.0).1,
      ) where
        reached : (o : Option Parser) → o ≡ Some y → (m k : ℕ) → k ≡ m → Among m (next_in ds y) → Contains (option_map_or (next_in ds) o []) k
        reached None is m k same among = absurd (cc is)
        reached (Some z) is m k same among = let own : z ≡ y = cc is in subst (λ (v : Parser). Contains (next_in ds v) k) (sym own) (subst (Contains (next_in ds y)) (sym same) (contains_of m (next_in ds y) among))

  module _ (leads : FrontLeads front) where
    abbrev g : List (List ℕ)
    g = map (idle_next all) all

    -- a state to which a state leads stands behind those in front
    behind_it : (z a : ℕ) → IsEdge g z a → (n : ℕ) × (a ≡ length front + n)
    behind_it z a into =
        let first = start_of all all z a into in
        let from = leads_at all z first.0 (each_leads front ys leads) first.1 in
        let at = numbered from.0 (targets16 first.0.transition) a from.1 (idle_edge all first.0 a first.2).1 in
        (at.number, at.shifts)

    out_of : (a b n : ℕ) → a ≡ length front + n → IsEdge g a b → Contains (next_of ds n) (b - length front) × (extracts_of ds n ≡ [])
    out_of a b n is out =
        let second = start_of all all a b out in
        let y = written n second.0 (behind_front front n second.0 (ap (slice_get all) (sym is) ∙ second.1)) in
        by second.0 y.0 y.1 y.2 second.2 where
          by : (x : State) (y : Parser) → slice_get ys n ≡ Some y → x ≡ state_of ds p y → Among b (idle_next all x) → Contains (next_of ds n) (b - length front) × (extracts_of ds n ≡ [])
          by x y there same among = from_state n y there b (subst (λ (z : State). Among b (idle_next all z)) same among)

    edges : (z a b : ℕ) → IsEdge g z a → IsEdge g a b → Contains (next_of ds (a - length front)) (b - length front) × (extracts_of ds (a - length front) ≡ [])
    edges z a b into out =
        let at = behind_it z a into in
        let own : at.0 ≡ a - length front = (let e = at.1 in omega (arith, e)) in
        subst (λ (m : ℕ). Contains (next_of ds m) (b - length front) × (extracts_of ds m ≡ [])) own (out_of a b at.0 at.1 out)

    pub acyclic : (HasIdleCycle ds → ⊥) → (q : Parser16) → q.states ≡ all → HasCycle (idle_graph q) → ⊥
    acyclic none q is cycle = idle_shown ds g (λ n. n - length front) edges none (subst (λ (xs : List State). HasCycle (map (idle_next xs) xs)) is cycle)
