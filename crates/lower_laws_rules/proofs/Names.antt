-- Facts on names as the rules ask for them: lists in which none stands twice, what a control declares, where a block stands
-- in `main`, and which actions a table has.
use Rattle.std.proofs.Common.{◌≡◌, ◌≢◌, ℕ, suc, ◌+◌, ◌<◌, ◌≤◌, Bool, true, false, ◌||◌, cond, List, [], ◌∷◌, ◌++◌, length, get_or, map, Some, refl, sym, ap, ap₂, ◌∙◌, subst, arith}
use Rattle.std.specs.Prelude.{not, count_by}
use Rattle.std.specs.Str.{bytes_eq}
use Rattle.std.specs.List.{list_any, AllByRecursion}
use Rattle.std.proofs.lemmas.Slice.Eq.{bytes_eq-Decides}
use Rattle.std.proofs.lemmas.List.Folds.{list_any-append}
use Rattle.p416_syntax.specs.declared.controls.TableKey.{TableKey}
use Rattle.p416_syntax.specs.declared.controls.Local.{Local}
use Rattle.p416_syntax.specs.declared.controls.Local.TheVariants as local
use Rattle.p416_syntax.specs.declared.controls.Control16.{Control16}
use Rattle.p416_syntax.specs.declared.program.Syntax16.{Syntax16}
use Rattle.p416_syntax.specs.Tree.{Stmt16}
use Rattle.p416_syntax.specs.Names.{Name, has_name, repeats}
use Rattle.p416_syntax.specs.Scopes.{Scope, Known, an_action, a_table, called_of, sort_in, sort_of, known_parameter}
use Rattle.p416_syntax.specs.Declarations.{known_local, control_names, control_scope}
use Rattle.p416_syntax.specs.Tables.{match_kinds, is_bad_key, is_prefix_key, has_bad_keys, counts_in, is_counted_by}
use Rattle.p416_syntax.specs.Main.{positions_from, positions_of}
use Rattle.agreement_of_meanings.specs.Shown.{NamedField, width_of}
use Rattle.lower_laws_rules.specs.Written.{TableText, table16, action16, declared_action}
use Rattle.lower_laws_rules.specs.Declared.{IsListed}
use Rattle.lower_laws_rules.proofs.Lists.{neither, both_true}
use Rattle.lower_laws_rules.proofs.Places.{not_less}
use Rattle.lower_laws_rules.proofs.Found.{left_false, right_false, is_itself, turned, found_at}
use Rattle.lower_laws_rules.proofs.Tables.{handed_bits, actions_are, counters_are, among_declared}

-- names that differ

pub other : (x y : Name) → x ≢ y → bytes_eq x y ≡ false
other x y apart = by (bytes_eq x y) refl where
  by : (b : Bool) → bytes_eq x y ≡ b → bytes_eq x y ≡ false
  by false is = is
  by true is = absurd (apart ((bytes_eq-Decides x y).0 is))

-- a name is none of these
pub none_of : (x : Name) (ys : List Name) → AllByRecursion (λ y. x ≢ y) ys → has_name ys x ≡ false
none_of x [] all = refl
none_of x (y ∷ ys) all = neither _ _ (other x y all.0) (none_of x ys all.1)

-- no name stands twice where names at different places differ
pub once : (names : List Name) → ((j k : ℕ) → j < k → k < length names → get_or names j [] ≢ get_or names k []) → repeats names ≡ false
once [] differ = refl
once (x ∷ names) differ = neither _ _ (first names (λ k lt. differ 0 (suc k) (omega arith) (omega (arith, lt)))) (once names (λ j k lt less. differ (suc j) (suc k) (omega (arith, lt)) (omega (arith, less)))) where
  first : (ys : List Name) → ((k : ℕ) → k < length ys → x ≢ get_or ys k []) → has_name ys x ≡ false
  first [] apart = refl
  first (y ∷ ys) apart = neither _ _ (other x y (apart 0 (omega arith))) (first ys (λ k lt. apart (suc k) (omega (arith, lt))))

-- two lists one behind the other, where no name of the first is in the second
pub once_behind : (xs ys : List Name) → repeats xs ≡ false → repeats ys ≡ false → AllByRecursion (λ x. has_name ys x ≡ false) xs → repeats (xs ++ ys) ≡ false
once_behind [] ys a b all = b
once_behind (x ∷ xs) ys a b all =
    neither _ _ (list_any-append (bytes_eq x) xs ys ∙ neither _ _ (left_false _ _ a) all.0) (once_behind xs ys (right_false _ _ a) b all.1)

-- What a control declares means what it is declared as.

pub local_found : (s : Scope) (c : Control16) (before : List Local) (l : Local) (after : List Local) → c.locals ≡ before ++ l ∷ after → repeats (map called_of (control_names s.names c)) ≡ false → sort_of (control_scope s c) (known_local s.names l).called ≡ (known_local s.names l).sort
local_found s c before l after is once =
    let names = map (known_parameter s.names) c.parameters in
    subst (λ (ks : List Known). repeats (map called_of ks) ≡ false → sort_in (ks ++ s.names) (known_local s.names l).called ≡ (known_local s.names l).sort)
    (sym (ap (λ (ls : List Local). names ++ map (known_local s.names) ls) is ∙ split names before))
    (found_at (names ++ map (known_local s.names) before) (known_local s.names l) (map (known_local s.names) after) s.names) once where
      mapped : (xs : List Local) → map (known_local s.names) (xs ++ l ∷ after) ≡ map (known_local s.names) xs ++ known_local s.names l ∷ map (known_local s.names) after
      mapped [] = refl
      mapped (x ∷ xs) = ap (λ (ks : List Known). known_local s.names x ∷ ks) (mapped xs)

      grouped : (xs ys zs : List Known) → xs ++ (ys ++ zs) ≡ (xs ++ ys) ++ zs
      grouped [] ys zs = refl
      grouped (x ∷ xs) ys zs = ap (λ (ks : List Known). x ∷ ks) (grouped xs ys zs)

      split : (names : List Known) (xs : List Local) → names ++ map (known_local s.names) (xs ++ l ∷ after) ≡ (names ++ map (known_local s.names) xs) ++ known_local s.names l ∷ map (known_local s.names) after
      split names xs = ap (λ (ks : List Known). names ++ ks) (mapped xs) ∙ grouped names (map (known_local s.names) xs) (known_local s.names l ∷ map (known_local s.names) after)

-- an action is one that tables may list
pub action_listed : (s : Scope) (c : Control16) (before after : List Local) (plane called : Name) (fs : List NamedField) (body : Stmt16) → c.locals ≡ before ++ local.Action (action16 plane called fs body) ∷ after → repeats (map called_of (control_names s.names c)) ≡ false → IsListed (control_scope s c) called (record { plane = plane; widths = map width_of fs })
action_listed s c before after plane called fs body is once = local_found s c before (local.Action (action16 plane called fs body)) after is once ∙ ap (λ hs. an_action plane hs) (handed_bits s.names fs)

pub table_found : (s : Scope) (c : Control16) (before after : List Local) (t : TableText) → c.locals ≡ before ++ local.Table (table16 t) ∷ after → repeats (map called_of (control_names s.names c)) ≡ false → sort_of (control_scope s c) t.called ≡ a_table (map declared_action t.actions) t.counters
table_found s c before after t is once = local_found s c before (local.Table (table16 t)) after is once ∙ ap₂ (λ xs o. a_table xs o) (actions_are t) (counters_are t)

-- a direct counter is counted by an action of its table, whatever stands before and behind
pub counted : (text action : Name) (xs ys : List Known) (k : Known) (t : TableText) → k.sort ≡ a_table (map declared_action t.actions) (Some text) → has_name t.actions action ≡ true → list_any (is_counted_by text action) (xs ++ k ∷ ys) ≡ true
counted text action [] ys k t is among =
    ap (λ b. b || list_any (is_counted_by text action) ys) (ap (counts_in text action) is ∙ both_true _ _ (is_itself text) (ap (λ b. not (not b)) (among_declared t.actions action ∙ among)))
counted text action (x ∷ xs) ys k t is among = later (is_counted_by text action x) _ (counted text action xs ys k t is among) where
  later : (a b : Bool) → b ≡ true → a || b ≡ true
  later true b e = refl
  later false b e = e

-- keys of known kinds, of which one has prefixes at most
pub keys_good : (keys : List TableKey) → AllByRecursion (λ k. has_name match_kinds k.kind ≡ true) keys → count_by is_prefix_key keys ≤ 1 → length keys ≤ 64 → has_bad_keys keys ≡ false
keys_good keys all single few = neither _ _ (known keys all) (neither _ _ (not_less 1 _ single) (not_less 64 (length keys) few)) where
  known : (ks : List TableKey) → AllByRecursion (λ k. has_name match_kinds k.kind ≡ true) ks → list_any is_bad_key ks ≡ false
  known [] all = refl
  known (k ∷ ks) all = neither _ _ (ap not all.0) (known ks all.1)

-- where a block stands in `main`

nowhere : (n : ℕ) (ys : List Name) (text : Name) → has_name ys text ≡ false → positions_from n ys text ≡ []
nowhere n [] text e = refl
nowhere n (y ∷ ys) text e = ap (λ b. cond b (n ∷ positions_from (suc n) ys text) (positions_from (suc n) ys text)) (turned text y (left_false _ _ e)) ∙ nowhere (suc n) ys text (right_false _ _ e)

apart_at : (xs ys : List Name) (text x : Name) → has_name (xs ++ text ∷ ys) x ≡ false → bytes_eq x text ≡ false
apart_at [] ys text x e = left_false _ _ e
apart_at (y ∷ xs) ys text x e = apart_at xs ys text x (right_false _ _ e)

stands_from : (n : ℕ) (xs ys : List Name) (text : Name) → repeats (xs ++ text ∷ ys) ≡ false → positions_from n (xs ++ text ∷ ys) text ≡ (n + length xs) ∷ []
stands_from n [] ys text e =
    ap (λ b. cond b (n ∷ positions_from (suc n) ys text) (positions_from (suc n) ys text)) (is_itself text)
    ∙ ap₂ (λ (m : ℕ) (ms : List ℕ). m ∷ ms) (omega arith) (nowhere (suc n) ys text (left_false _ _ e))
stands_from n (x ∷ xs) ys text e =
    ap (λ b. cond b (n ∷ positions_from (suc n) (xs ++ text ∷ ys) text) (positions_from (suc n) (xs ++ text ∷ ys) text)) (apart_at xs ys text x (left_false _ _ e))
    ∙ stands_from (suc n) xs ys text (right_false _ _ e) ∙ ap (λ (m : ℕ). m ∷ []) (omega arith)

pub stands_at_once : (s : Syntax16) (xs ys : List Name) (text : Name) → s.main ≡ xs ++ text ∷ ys → repeats s.main ≡ false → positions_of s text ≡ length xs ∷ []
stands_at_once s xs ys text is once =
    ap (λ (names : List Name). positions_from 0 names text) is ∙ stands_from 0 xs ys text (ap repeats (sym is) ∙ once) ∙ ap (λ (m : ℕ). m ∷ []) (omega arith)
