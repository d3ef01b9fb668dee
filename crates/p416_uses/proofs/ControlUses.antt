-- Controls and their actions.
use Rattle.std.proofs.Common.{◌≡◌, ℕ, ◌+◌, ◌-◌, Option, Some, None, List, [], ◌∷◌, ◌++◌, length, drop, map, flat_map, filter_map, option_to_list, Result, Ok, Err, OnOk, refl, sym, ap, ◌∙◌, subst, arith}
use Rattle.std.proofs.Math.Seq.{drop-append_seam}
use Rattle.std.proofs.lemmas.List.{append_assoc, map-append, length-append}
use Rattle.p416_syntax.specs.declared.program.Decl16.{Decl16}
use Rattle.p416_syntax.specs.declared.controls.Action16.{Action16}
use Rattle.p416_syntax.specs.declared.controls.Local.{Local}
use Rattle.p416_syntax.specs.declared.controls.Local.TheVariants as local
use Rattle.p416_syntax.specs.declared.controls.Control16.{Control16}
use Rattle.p416_syntax.specs.Names.{Name}
use Rattle.p416_syntax.specs.Scopes.{Scope, Known, called_of, known_parameter, in_apply}
use Rattle.p416_syntax.specs.Uses.{names_of_scope, some_parameters, some_counters, of_block_parameter, of_action_parameter}
use Rattle.p416_syntax.specs.Declarations.{known_local, parameter_name, control_names, control_scope, parameter_uses, note_uses, body_uses, action_scope, action_uses, local_uses, control_uses, counters_in, table_in, tables_in}
use Rattle.p416_listed_check.specs.Listings.{AreGiven}
use Rattle.p416_scopes.specs.declared.scope.Scope.{Scope as CodeScope}
use Rattle.p416_scopes.specs.Seen.{seen_scope, seen_part}
use Rattle.p416_visits.specs.Left.{height, shortened}
use Rattle.p416_visits.proofs.Visiting.{scope_height}
use Rattle.p416_expression_uses.specs.Found.{Found, after, after_all}
use Rattle.p416_expression_uses.proofs.Finding.{after_then, after_turn}
use Rattle.p416_uses.specs.Parts.{local_name, head_uses, counters_by}
use Rattle.p416_uses.proofs.ParserUses.{called_parameters}
use Rattle.p416_uses.proofs.Turns.{three_seen}

-- the direct counters of tables

counters_of_first : (x : Local) (rest : List Local) → filter_map counters_in (filter_map table_in (x ∷ rest)) ≡ option_to_list (counters_by x) ++ filter_map counters_in (filter_map table_in rest)
counters_of_first (local.Instance notes i) rest = refl
counters_of_first (local.Var v) rest = refl
counters_of_first (local.Action a) rest = refl
counters_of_first (local.Table t) rest = by_case (counters_in t) refl
  where
    by_case : (o : Option Name) → counters_in t ≡ o → filter_map counters_in (t ∷ filter_map table_in rest) ≡ option_to_list (counters_in t) ++ filter_map counters_in (filter_map table_in rest)
    by_case (Some text) is = rw is refl
    by_case None is = rw is refl

pub counters_turn : (x : Local) (rest : List Local) (old new whole : List Name) (o : Option Name) → o ≡ counters_by x → new ≡ old ++ option_to_list o → old ++ filter_map counters_in (filter_map table_in (x ∷ rest)) ≡ whole
    → new ++ filter_map counters_in (filter_map table_in rest) ≡ whole
counters_turn x rest old new whole o of_it is so =
    ap (λ xs. xs ++ filter_map counters_in (filter_map table_in rest)) (is ∙ ap (λ p. old ++ option_to_list p) of_it)
    ∙ (append_assoc old (option_to_list (counters_by x)) (filter_map counters_in (filter_map table_in rest)) ∙ (ap (λ xs. old ++ xs) (sym (counters_of_first x rest)) ∙ so))

-- actions

pub head_told : (f g h i k : Found) (s : Scope) (a : Action16) → g ≡ after_all f (note_uses a.notes) → h ≡ after g (names_of_scope (map parameter_name a.parameters))
    → i ≡ after h (some_parameters a.parameters) → k ≡ after_all i (flat_map (parameter_uses s of_action_parameter) a.parameters) → k ≡ after_all f (head_uses s a)
head_told f g h i k s a of_notes of_names of_order of_parameters =
    after_then f g k (note_uses a.notes) (names_of_scope (map parameter_name a.parameters) ∷ some_parameters a.parameters ∷ flat_map (parameter_uses s of_action_parameter) a.parameters) of_notes
    (of_parameters ∙ ap (λ x. after_all x (flat_map (parameter_uses s of_action_parameter) a.parameters)) (of_order ∙ ap (λ x. after x (some_parameters a.parameters)) of_names))

left_over : {X : Type 0} (xs ys : List X) (n : ℕ) → length ys ≡ n → drop (length (xs ++ ys) - n) (xs ++ ys) ≡ ys
left_over xs ys n is =
    let short : length (xs ++ ys) - n ≡ length xs = omega (arith, length-append xs ys, is) in
    ap (λ k. drop k (xs ++ ys)) short ∙ drop-append_seam xs ys

pub action_left : (c : CodeScope) (ds : List Decl16) (a : Action16) (len : ℕ) (mid new : Scope) → length c.names ≡ length c.sorts.items → ds ≡ c.top.now → len ≡ length c.names
    → seen_part c.part ≡ in_apply → mid ≡ action_scope (seen_scope c) a → new ≡ record (shortened (height ds len) mid) { part = in_apply } → new ≡ seen_scope c
action_left c ds a len mid new same top of_len part of_mid is =
    is
    ∙ (ap (λ (t : Scope). record (shortened (height ds len) t) { part = in_apply }) of_mid
    ∙ (ap (λ ns. record (seen_scope c) { names = ns; part = in_apply })
    (left_over (map (known_parameter (seen_scope c).names) a.parameters) (seen_scope c).names (height ds len)
    (scope_height c same ∙ (ap (height c.top.now) (sym of_len) ∙ ap (λ es. height es len) (sym top))))
    ∙ ap (λ p. record (seen_scope c) { part = p }) (sym part)))

pub action_body_told : (f g : Found) (s t : Scope) (a : Action16) → t ≡ action_scope s a → ((braces : ℕ) → g ≡ after_all f (body_uses t braces a.body))
    → g ≡ after_all f (body_uses (action_scope s a) 1 a.body)
action_body_told f g s t a is so = so 1 ∙ ap (λ u. after_all f (body_uses u 1 a.body)) is

pub action_told : (f g h : Found) (s : Scope) (a : Action16) → g ≡ after_all f (head_uses s a) → h ≡ after_all g (body_uses (action_scope s a) 1 a.body) → h ≡ after_all f (action_uses s a)
action_told f g h s a of_head of_body = after_then f g h (head_uses s a) (body_uses (action_scope s a) 1 a.body) of_head of_body

-- what a control declares

pub part_stays : (old new : CodeScope) → seen_scope new ≡ seen_scope old → seen_part old.part ≡ in_apply → seen_part new.part ≡ in_apply
part_stays old new same so = ap (λ (s : Scope). s.part) same ∙ so

-- names of actions whose parameters can be given

pub given_on : (s t : Scope) (names : List Name) → t ≡ s → AreGiven t names → AreGiven s names
given_on s t names same are = subst (λ (u : Scope). AreGiven u names) same are

pub given_at : (s t : Scope) (names : List Name) → t ≡ s → AreGiven s names → AreGiven t names
given_at s t names same are = subst (λ (u : Scope). AreGiven u names) (sym same) are

pub given_still : {E : Type 0} (r : Result (Unit {0}) E) (s : Scope) (names : List Name) → AreGiven s names → OnOk r (AreGiven s names)
given_still (Ok x) s names are = are
given_still (Err e) s names are = tt

pub local_turn : (f g whole : Found) (s t : Scope) (x : Local) (rest : List Local) → t ≡ s → g ≡ after_all f (local_uses t x)
    → after_all f (local_uses s x ++ flat_map (local_uses s) rest) ≡ whole → after_all g (flat_map (local_uses s) rest) ≡ whole
local_turn f g whole s t x rest same is so =
    after_turn f g whole (local_uses s x) (flat_map (local_uses s) rest) (is ∙ ap (λ u. after_all f (local_uses u x)) same) so

called_locals : (ns : List Known) (xs : List Local) → map called_of (map (known_local ns) xs) ≡ map local_name xs
called_locals ns [] = refl
called_locals ns (local.Instance notes i ∷ xs) = ap (λ ys. local_name (local.Instance notes i) ∷ ys) (called_locals ns xs)
called_locals ns (local.Var v ∷ xs) = ap (λ ys. local_name (local.Var v) ∷ ys) (called_locals ns xs)
called_locals ns (local.Action a ∷ xs) = ap (λ ys. local_name (local.Action a) ∷ ys) (called_locals ns xs)
called_locals ns (local.Table t ∷ xs) = ap (λ ys. local_name (local.Table t) ∷ ys) (called_locals ns xs)

control_called : (ns : List Known) (c : Control16) → map called_of (control_names ns c) ≡ map parameter_name c.parameters ++ map local_name c.locals
control_called ns c =
    map-append called_of (map (known_parameter ns) c.parameters) (map (known_local ns) c.locals)
    ∙ (ap (λ xs. xs ++ map called_of (map (known_local ns) c.locals)) (called_parameters ns c.parameters)
    ∙ ap (λ xs. map parameter_name c.parameters ++ xs) (called_locals ns c.locals))

pub control_named : (f g h k : Found) (names : List Name) (ns : List Known) (c : Control16) (s t : Scope) → g ≡ after f (names_of_scope names)
    → names ≡ map parameter_name c.parameters ++ map local_name c.locals → h ≡ after g (some_counters (filter_map counters_in (tables_in c))) → t ≡ s
    → k ≡ after_all h (flat_map (parameter_uses t of_block_parameter) c.parameters)
    → k ≡ after_all f (names_of_scope (map called_of (control_names ns c)) ∷ some_counters (filter_map counters_in (tables_in c)) ∷ flat_map (parameter_uses s of_block_parameter) c.parameters)
control_named f g h k names ns c s t of_names are of_counters same of_parameters =
    of_parameters
    ∙ (ap (λ u. after_all h (flat_map (parameter_uses u of_block_parameter) c.parameters)) same
    ∙ ap (λ x. after_all x (flat_map (parameter_uses s of_block_parameter) c.parameters))
    (of_counters ∙ ap (λ x. after x (some_counters (filter_map counters_in (tables_in c)))) (of_names ∙ ap (λ xs. after f (names_of_scope xs)) (are ∙ sym (control_called ns c)))))

pub control_told : (f g h k : Found) (s t u : Scope) (c : Control16)
    → g ≡ after_all f (names_of_scope (map called_of (control_names s.names c)) ∷ some_counters (filter_map counters_in (tables_in c)) ∷ flat_map (parameter_uses s of_block_parameter) c.parameters)
    → t ≡ control_scope s c → h ≡ after_all g (flat_map (local_uses t) c.locals) → u ≡ t → ((braces : ℕ) → k ≡ after_all h (body_uses u braces c.body)) → k ≡ after_all f (control_uses s c)
control_told f g h k s t u c of_head same of_locals after_them of_body =
    three_seen f g h k
    (names_of_scope (map called_of (control_names s.names c)) ∷ some_counters (filter_map counters_in (tables_in c)) ∷ flat_map (parameter_uses s of_block_parameter) c.parameters)
    (flat_map (local_uses (control_scope s c)) c.locals) (body_uses (control_scope s c) 1 c.body) of_head
    (of_locals ∙ ap (λ v. after_all g (flat_map (local_uses v) c.locals)) same) (of_body 1 ∙ ap (λ v. after_all h (body_uses v 1 c.body)) (after_them ∙ same))
