-- The signature has each table of a control at its number, and its entries stand at the same number.
use Rattle.std.proofs.Common.{◌≡◌, ◌⊎◌, inl, inr, ℕ, zero, suc, ◌+◌, ◌<◌, ◌||◌, IsTrue, Bool, true, false, cond, Option, Some, None, unwrap_or, List, [], ◌∷◌, ◌++◌, length, map, flat_map, filter_map, fold, get_or, refl, sym, ap, ◌∙◌, subst, arith, bytes_eq}
use Rattle.std.specs.Prelude.{position}
use Rattle.std.specs.BTreeSet.{insert_key}
use Rattle.std.specs.Cmp.Lexicographic.{slice_cmp}
use Rattle.std.specs.List.{AllZip, list_any, cons_option}
use Rattle.std.specs.Ordering.{nat_cmp, match_ordering, is_eq}
use Rattle.std.specs.declared.cmp.Ordering.{Ordering}
use Rattle.std.specs.declared.cmp.Ordering.TheVariants.{Less, Equal, Greater}
use Rattle.std.proofs.lemmas.Iterator.Adapters.{position_from-zero}
use Rattle.std.specs.List.{position_from}
use Rattle.std.proofs.lemmas.List.{get_or-map}
use Rattle.std.proofs.lemmas.List.Quantifiers.{position-Some}
use Rattle.std.proofs.lemmas.Map.Text.{is_eq-slice_cmp}
use Rattle.std.proofs.lemmas.Slice.Eq.{bytes_eq-Decides}
use Rattle.match_core.specs.declared.entries.TableFill.{TableFill}
use Rattle.match_core.specs.declared.signatures.TableSig.{TableSig}
use Rattle.match_core.specs.Best.{Filled}
use Rattle.match_core.specs.Fits.{FitsFill, Fits}
use Rattle.match_core.specs.Tables.{filled_of, filled_tables, tables_of}
use Rattle.p416_syntax.specs.declared.controls.Table16.{Table16}
use Rattle.p416_syntax.specs.declared.controls.Local.{Local}
use Rattle.p416_syntax.specs.declared.controls.Control16.{Control16}
use Rattle.p416_syntax.specs.declared.program.Decl16.{Decl16}
use Rattle.p416_syntax.specs.declared.program.Decl16.TheVariants as decl
use Rattle.p416_syntax.specs.declared.program.Syntax16.{Syntax16}
use Rattle.p416_syntax.specs.Names.{Name, has_name, repeats}
use Rattle.p416_syntax.specs.Scopes.{Scope}
use Rattle.p416_syntax.specs.Declarations.{tables_in}
use Rattle.p416_syntax.specs.Tables.{table_plane, tables_of as program_tables, objects_of, outer_counters}
use Rattle.p416_syntax.specs.Breaks.{IsBroken, program_rules, BreaksNone}
use Rattle.v1_core.specs.declared.block.Block.{Block}
use Rattle.v1_core.specs.Signatures.{place_among, Placed, placed, placed_in, placed_tables, table_with, table_names, table_number, table_sig, placed_sig, tables_in_order, signature16}
use Rattle.v1_core.specs.Surroundings.{Setting, table_called, table_named}
use Rattle.v1_core.specs.Blocks.{around_control, control_at}
use Rattle.v1_core.specs.Tables.{fill_of}
use Rattle.v1_ready_blocks.specs.Tables as ready
use Rattle.v1_block_laws.specs.Variables.{scope_in_control}
use Rattle.v1_block_laws.proofs.Tests.{first_false, second_false}
use Rattle.v1_block_laws.proofs.Blocks.{control_declared}
use Rattle.v1_control_laws.specs.Tables.{IsFilled}

-- one of a list

abbrev pub Mem : {X : Type 0} → X → List X → Type 0
Mem x [] = ⊥
Mem x (y ∷ ys) = (y ≡ x) ⊎ Mem x ys

mem_front : {X : Type 0} (x : X) (xs ys : List X) → Mem x xs → Mem x (xs ++ ys)
mem_front x [] ys h = absurd h
mem_front x (y ∷ xs) ys (inl e) = inl e
mem_front x (y ∷ xs) ys (inr h) = inr (mem_front x xs ys h)

mem_back : {X : Type 0} (x : X) (xs ys : List X) → Mem x ys → Mem x (xs ++ ys)
mem_back x [] ys h = h
mem_back x (y ∷ xs) ys h = inr (mem_back x xs ys h)

mem_map : {X Y : Type 0} (f : X → Y) (x : X) (xs : List X) → Mem x xs → Mem (f x) (map f xs)
mem_map f x [] h = absurd h
mem_map f x (y ∷ xs) (inl e) = inl (ap f e)
mem_map f x (y ∷ xs) (inr h) = inr (mem_map f x xs h)

mem_flat : {X Y : Type 0} (f : X → List Y) (x : X) (y : Y) (xs : List X) → Mem x xs → Mem y (f x) → Mem y (flat_map f xs)
mem_flat f x y [] h g = absurd h
mem_flat f x y (z ∷ xs) (inl e) g = mem_front y (f z) (flat_map f xs) (subst (λ w. Mem y (f w)) (sym e) g)
mem_flat f x y (z ∷ xs) (inr h) g = mem_back y (f z) (flat_map f xs) (mem_flat f x y xs h g)

mem_middle : {X : Type 0} (x : X) (before after : List X) → Mem x (before ++ x ∷ after)
mem_middle x [] after = inl refl
mem_middle x (y ∷ before) after = inr (mem_middle x before after)

-- names in order are those that were put in order

abbrev Has : Name → List Name → Type 0
Has p names = list_any (bytes_eq p) names ≡ true

or_first : (a b : Bool) → a ≡ true → (a || b) ≡ true
or_first true b e = refl
or_first false b e = absurd (cc e)

or_second : (a b : Bool) → b ≡ true → (a || b) ≡ true
or_second true b e = refl
or_second false b e = e

itself : (p : Name) → bytes_eq p p ≡ true
itself p = (bytes_eq-Decides p p).1 refl

abbrev put : List Name → Name → List Name
put names k = insert_key (slice_cmp nat_cmp) names k

has_put : (p : Name) (names : List Name) → Has p (put names p)
has_put p [] = or_first (bytes_eq p p) false (itself p)
has_put p (x ∷ names) = by (slice_cmp nat_cmp p x) refl (has_put p names) where
  by : (o : Ordering) → slice_cmp nat_cmp p x ≡ o → Has p (put names p) → Has p (match_ordering o (p ∷ x ∷ names) (x ∷ names) (x ∷ put names p))
  by Less e rest = or_first (bytes_eq p p) (list_any (bytes_eq p) (x ∷ names)) (itself p)
  by Equal e rest = or_first (bytes_eq p x) (list_any (bytes_eq p) names) (sym (is_eq-slice_cmp p x) ∙ ap is_eq e)
  by Greater e rest = or_second (bytes_eq p x) (list_any (bytes_eq p) (put names p)) rest

has_still : (p k : Name) (names : List Name) → Has p names → Has p (put names k)
has_still p k [] h = absurd (cc h)
has_still p k (x ∷ names) h = by (slice_cmp nat_cmp k x) (bytes_eq p x) h (has_still p k names) where
  by : (o : Ordering) (t : Bool) → (t || list_any (bytes_eq p) names) ≡ true → (Has p names → Has p (put names k)) → Has p (match_ordering o (k ∷ x ∷ names) (x ∷ names) (x ∷ put names k))
  by Less t g rest = or_second (bytes_eq p k) (list_any (bytes_eq p) (x ∷ names)) h
  by Equal t g rest = h
  by Greater t g rest = more (bytes_eq p x) h where
    more : (u : Bool) → (u || list_any (bytes_eq p) names) ≡ true → (u || list_any (bytes_eq p) (put names k)) ≡ true
    more true f = refl
    more false f = rest f

has_all : (p : Name) (names before : List Name) → Has p before ⊎ Mem p names → Has p (fold (insert_key (slice_cmp nat_cmp)) before names)
has_all p [] before (inl h) = h
has_all p [] before (inr h) = absurd h
has_all p (k ∷ names) before (inl h) = has_all p names (put before k) (inl (has_still p k before h))
has_all p (k ∷ names) before (inr (inl e)) = has_all p names (put before k) (inl (subst (λ (n : Name). Has p (put before n)) (sym e) (has_put p before)))
has_all p (k ∷ names) before (inr (inr h)) = has_all p names (put before k) (inr h)

-- a name that is there has a place
found_from : (p : Name) (names : List Name) (n : ℕ) → Has p names → (i : ℕ) × (position_from (bytes_eq p) n names ≡ Some i)
found_from p [] n h = absurd (cc h)
found_from p (x ∷ names) n h = by (bytes_eq p x) h (found_from p names (n + 1)) where
  by : (t : Bool) → (t || list_any (bytes_eq p) names) ≡ true → (Has p names → (i : ℕ) × (position_from (bytes_eq p) (n + 1) names ≡ Some i)) → (i : ℕ) × (cond t (Some n) (position_from (bytes_eq p) (n + 1) names) ≡ Some i)
  by true g rest = (n, refl)
  by false g rest = rest g

pub record PlacedAt (names : List Name) (p : Name) : Type 0 where
  pub within : place_among names p < length names
  pub is : get_or names (place_among names p) [] ≡ p

placed_at : (names : List Name) (p : Name) → Has p names → PlacedAt names p
placed_at names p h =
    let at = found_from p names 0 h in
    let is : position (bytes_eq p) names ≡ Some at.0 = position_from-zero (bytes_eq p) names ∙ at.1 in
    let same : place_among names p ≡ at.0 = ap (λ (o : Option ℕ). unwrap_or o (length names)) is in
    let there = position-Some (bytes_eq p) names at.0 [] is in
    record {
      within = subst (λ (i : ℕ). i < length names) (sym same) there.0;
      is = ap (λ (i : ℕ). get_or names i []) same ∙ sym ((bytes_eq-Decides p (get_or names at.0 [])).0 there.1);
    }

-- where each of a list is found, what is found stands at the same places
pub kept_at : {X Y : Type 0} (f : X → Option Y) (xs : List X) (e : X) (d : Y) → ((i : ℕ) → i < length xs → (y : Y) × (f (get_or xs i e) ≡ Some y)) → (length (filter_map f xs) ≡ length xs) × ((i : ℕ) → i < length xs → f (get_or xs i e) ≡ Some (get_or (filter_map f xs) i d))
kept_at f [] e d all = (refl, λ i lt. absurd (none i lt)) where
  none : (m : ℕ) → m < 0 → ⊥
  none m lt = omega arith
kept_at {Y = Y} f (x ∷ xs) e d all =
    by (f x) refl (all 0 (begins (length xs))) (kept_at f xs e d (λ i lt. all (suc i) (more i (length xs) lt))) where
      begins : (l : ℕ) → 0 < suc l
      begins l = omega arith

      more : (i l : ℕ) → i < l → suc i < suc l
      more i l lt = omega (arith, lt)

      less : (i l : ℕ) → suc i < suc l → i < l
      less i l lt = omega (arith, lt)

      by : (o : Option Y) → f x ≡ o → (y : Y) × (f x ≡ Some y) → (length (filter_map f xs) ≡ length xs) × ((i : ℕ) → i < length xs → f (get_or xs i e) ≡ Some (get_or (filter_map f xs) i d)) → (length (cons_option o (filter_map f xs)) ≡ suc (length xs)) × ((i : ℕ) → i < suc (length xs) → f (get_or (x ∷ xs) i e) ≡ Some (get_or (cons_option o (filter_map f xs)) i d))
      by None is y rest = absurd (cc (sym is ∙ y.1))
      by (Some z) is y rest = (ap suc rest.0, at) where
        at : (i : ℕ) → i < suc (length xs) → f (get_or (x ∷ xs) i e) ≡ Some (get_or (z ∷ filter_map f xs) i d)
        at zero lt = is
        at (suc i) lt = rest.1 i (less i (length xs) lt)

-- tables with their controls

abbrev plane_of : Placed → Name
plane_of p = table_plane p.table

-- there is one of each name
first_one : (all : List Placed) (q : Placed) → Mem q all → repeats (map plane_of all) ≡ false → table_with all (plane_of q) ≡ Some q
first_one [] q h once = absurd h
first_one (y ∷ all) q h once = by h (first_one all q) where
  others : list_any (bytes_eq (plane_of y)) (map plane_of all) ≡ false
  others = first_false (has_name (map plane_of all) (plane_of y)) (repeats (map plane_of all)) once

  later : repeats (map plane_of all) ≡ false
  later = second_false (has_name (map plane_of all) (plane_of y)) (repeats (map plane_of all)) once

  among : (xs : List Placed) (p : Name) → Mem q xs → bytes_eq p (plane_of q) ≡ true → list_any (bytes_eq p) (map plane_of xs) ≡ true
  among [] p g e = absurd g
  among (x ∷ xs) p (inl same) e = or_first (bytes_eq p (plane_of x)) (list_any (bytes_eq p) (map plane_of xs)) (ap (λ (z : Placed). bytes_eq p (plane_of z)) same ∙ e)
  among (x ∷ xs) p (inr g) e = or_second (bytes_eq p (plane_of x)) (list_any (bytes_eq p) (map plane_of xs)) (among xs p g e)

  never : (t : Bool) → t ≡ true → t ≡ false → ⊥
  never true e f = cc f
  never false e f = cc e

  by : (y ≡ q) ⊎ Mem q all → (Mem q all → repeats (map plane_of all) ≡ false → table_with all (plane_of q) ≡ Some q) → cond (bytes_eq (plane_of y) (plane_of q)) (Some y) (table_with all (plane_of q)) ≡ Some q
  by (inl same) rest =
      ap (λ (t : Bool). cond t (Some y) (table_with all (plane_of q))) (ap (λ (z : Placed). bytes_eq (plane_of z) (plane_of q)) same ∙ itself (plane_of q))
      ∙ ap (λ (z : Placed). Some z) same
  by (inr g) rest = chosen (bytes_eq (plane_of y) (plane_of q)) refl where
    chosen : (t : Bool) → bytes_eq (plane_of y) (plane_of q) ≡ t → cond t (Some y) (table_with all (plane_of q)) ≡ Some q
    chosen true e = absurd (never (list_any (bytes_eq (plane_of y)) (map plane_of all)) (among all (plane_of y) g e) others)
    chosen false e = rest g later

-- the names of all tables

in_control : (s : Scope) (locals : List Local) (ts : List Table16) → map plane_of (map (placed s locals) ts) ≡ map table_plane ts
in_control s locals [] = refl
in_control s locals (t ∷ ts) = ap (λ (l : List Name). table_plane t ∷ l) (in_control s locals ts)

map_both : {X Y : Type 0} (f : X → Y) (xs ys : List X) → map f (xs ++ ys) ≡ map f xs ++ map f ys
map_both f [] ys = refl
map_both f (x ∷ xs) ys = ap (λ l. f x ∷ l) (map_both f xs ys)

planes_are : (syntax : Syntax16) (ds : List Decl16) → map plane_of (flat_map (placed_in syntax) ds) ≡ map table_plane (flat_map program_tables ds)
planes_are syntax [] = refl
planes_are syntax (d ∷ ds) =
    map_both plane_of (placed_in syntax d) (flat_map (placed_in syntax) ds)
    ∙ (ap (λ (l : List Name). l ++ map plane_of (flat_map (placed_in syntax) ds)) (own d)
    ∙ (ap (λ (l : List Name). map table_plane (program_tables d) ++ l) (planes_are syntax ds)
    ∙ sym (map_both table_plane (program_tables d) (flat_map program_tables ds)))) where
      own : (x : Decl16) → map plane_of (placed_in syntax x) ≡ map table_plane (program_tables x)
      own (decl.Header h) = refl
      own (decl.Struct h) = refl
      own (decl.Instance notes i) = refl
      own (decl.Parser p) = refl
      own (decl.Control c) = in_control _ c.locals (tables_in c)

-- each name of the signature finds a table
some_with : (all : List Placed) (p : Name) → Mem p (map plane_of all) → (q : Placed) × (table_with all p ≡ Some q)
some_with [] p h = absurd h
some_with (y ∷ all) p h = by (bytes_eq (plane_of y) p) refl (some_with all p) where
  by : (t : Bool) → bytes_eq (plane_of y) p ≡ t → (Mem p (map plane_of all) → (q : Placed) × (table_with all p ≡ Some q)) → (q : Placed) × (cond t (Some y) (table_with all p) ≡ Some q)
  by true e rest = (y, refl)
  by false e rest = rest (tail h) where
    never : bytes_eq (plane_of y) p ≡ true → ⊥
    never g = cc (sym g ∙ e)

    tail : (plane_of y ≡ p) ⊎ Mem p (map plane_of all) → Mem p (map plane_of all)
    tail (inl same) = absurd (never (ap (λ (n : Name). bytes_eq (plane_of y) n) (sym same) ∙ itself (plane_of y)))
    tail (inr g) = g

-- what is put in order was one of those
put_from : (p k : Name) (names : List Name) → Mem p (put names k) → (p ≡ k) ⊎ Mem p names
put_from p k [] (inl e) = inl (sym e)
put_from p k [] (inr h) = absurd h
put_from p k (x ∷ names) h = by (slice_cmp nat_cmp k x) h (put_from p k names) where
  by : (o : Ordering) → Mem p (match_ordering o (k ∷ x ∷ names) (x ∷ names) (x ∷ put names k)) → (Mem p (put names k) → (p ≡ k) ⊎ Mem p names) → (p ≡ k) ⊎ ((x ≡ p) ⊎ Mem p names)
  by Less (inl e) rest = inl (sym e)
  by Less (inr g) rest = inr g
  by Equal g rest = inr g
  by Greater (inl e) rest = inr (inl e)
  by Greater (inr g) rest = later (rest g) where
    later : (p ≡ k) ⊎ Mem p names → (p ≡ k) ⊎ ((x ≡ p) ⊎ Mem p names)
    later (inl e) = inl e
    later (inr f) = inr (inr f)

pub ordered_from : (p : Name) (names before : List Name) → Mem p (fold (insert_key (slice_cmp nat_cmp)) before names) → Mem p before ⊎ Mem p names
ordered_from p [] before h = inl h
ordered_from p (k ∷ names) before h = by (ordered_from p names (put before k) h) where
  step : (p ≡ k) ⊎ Mem p before → Mem p before ⊎ ((k ≡ p) ⊎ Mem p names)
  step (inl e) = inr (inl (sym e))
  step (inr g) = inl g

  by : Mem p (put before k) ⊎ Mem p names → Mem p before ⊎ ((k ≡ p) ⊎ Mem p names)
  by (inl g) = step (put_from p k before g)
  by (inr g) = inr (inr g)

pub mem_at : (names : List Name) (i : ℕ) → i < length names → Mem (get_or names i []) names
mem_at [] i lt = absurd (none i lt) where
  none : (m : ℕ) → m < 0 → ⊥
  none m l = omega arith
mem_at (x ∷ names) zero lt = inl refl
mem_at (x ∷ names) (suc i) lt = inr (mem_at names i (less i (length names) lt)) where
  less : (j l : ℕ) → suc j < suc l → j < l
  less j l h = omega (arith, h)

-- a table of a control

called_mem : (ts : List Table16) (text : Name) (t : Table16) → table_called ts text ≡ Some t → Mem t ts
called_mem [] text t is = absurd (cc is)
called_mem (x ∷ ts) text t is = by (bytes_eq x.name text) is (called_mem ts text t) where
  by : (b : Bool) → cond b (Some x) (table_called ts text) ≡ Some t → (table_called ts text ≡ Some t → Mem t ts) → (x ≡ t) ⊎ Mem t ts
  by true e rest = inl (cc e)
  by false e rest = inr (rest e)

-- T9
once : (syntax : Syntax16) → BreaksNone syntax program_rules → repeats (map table_plane (flat_map program_tables syntax.decls)) ≡ false
unfolding IsBroken
once syntax accepted = by (repeats (map table_plane (flat_map program_tables syntax.decls))) (λ x. accepted.1.1.1.1.1.1.1.1.0 (inr x)) where
  others : Bool
  others = repeats (flat_map objects_of syntax.decls)

  counters : Bool
  counters = repeats (flat_map outer_counters syntax.decls)

  by : (b : Bool) → (IsTrue ((b || repeats (flat_map objects_of syntax.decls)) || repeats (flat_map outer_counters syntax.decls)) → ⊥) → b ≡ false
  by true never = absurd (never refl)
  by false never = refl

-- entries

zip_at : (P : TableSig → TableFill → Type 0) (sigs : List TableSig) (fills : List TableFill) (i : ℕ) (s : TableSig) (f : TableFill) (n : Filled) → AllZip P sigs fills → i < length sigs → P (get_or sigs i s) (get_or fills i f) × (get_or (filled_tables sigs fills) i n ≡ filled_of (get_or sigs i s) (get_or fills i f))
zip_at P [] fills i s f n all lt = absurd (none i lt) where
  none : (m : ℕ) → m < 0 → ⊥
  none m l = omega arith
zip_at P (x ∷ sigs) [] i s f n all lt = absurd all
zip_at P (x ∷ sigs) (y ∷ fills) zero s f n all lt = (all.0, refl)
zip_at P (x ∷ sigs) (y ∷ fills) (suc i) s f n all lt = zip_at P sigs fills i s f n all.1 (less i (length sigs) lt) where
  less : (j l : ℕ) → suc j < suc l → j < l
  less j l h = omega (arith, h)

module _ (c : Setting) (place : Block) (k : Control16) (accepted : BreaksNone c.syntax program_rules) (stands : control_at c.syntax place ≡ Some k) (text : Name) (t : Table16) (called : table_named (around_control c place k) text ≡ Some t) where
  abbrev names : List Name
  names = table_names c.syntax

  abbrev own : Placed
  own = placed (scope_in_control c.syntax k) k.locals t

  abbrev number : ℕ
  number = table_number c.syntax t

  own_mem : Mem own (placed_tables c.syntax)
  own_mem =
      let found = control_declared c.syntax place k stands in
      mem_flat (placed_in c.syntax) (decl.Control k) own c.syntax.decls
      (subst (λ (ds : List Decl16). Mem (decl.Control k) ds) (sym found.is) (mem_middle (decl.Control k) found.before found.after))
      (mem_map (placed (scope_in_control c.syntax k) k.locals) t (tables_in k) (called_mem (tables_in k) text t called))

  planes : map plane_of (placed_tables c.syntax) ≡ map table_plane (flat_map program_tables c.syntax.decls)
  planes = planes_are c.syntax c.syntax.decls

  own_found : table_with (placed_tables c.syntax) (table_plane t) ≡ Some own
  own_found = first_one (placed_tables c.syntax) own own_mem (ap repeats planes ∙ once c.syntax accepted)

  at : PlacedAt names (table_plane t)
  at = placed_at names (table_plane t) (has_all (table_plane t) (map table_plane (flat_map program_tables c.syntax.decls)) [] (inr (subst (λ (l : List Name). Mem (table_plane t) l) planes (mem_map plane_of own (placed_tables c.syntax) own_mem))))

  each_found : (i : ℕ) → i < length names → (q : Placed) × (table_with (placed_tables c.syntax) (get_or names i []) ≡ Some q)
  each_found i lt =
      some_with (placed_tables c.syntax) (get_or names i [])
      (subst (λ (l : List Name). Mem (get_or names i []) l) (sym planes) (from (ordered_from (get_or names i []) (map table_plane (flat_map program_tables c.syntax.decls)) [] (mem_at names i lt)))) where
        from : ⊥ ⊎ Mem (get_or names i []) (map table_plane (flat_map program_tables c.syntax.decls)) → Mem (get_or names i []) (map table_plane (flat_map program_tables c.syntax.decls))
        from (inl h) = absurd h
        from (inr h) = h

  some_equal : (p q : Placed) → Some p ≡ Some q → p ≡ q
  some_equal p q e = cc e

  stands_there : get_or (tables_in_order c.syntax) number own ≡ own
  stands_there =
      let kept = kept_at (table_with (placed_tables c.syntax)) names [] own each_found in
      some_equal (get_or (tables_in_order c.syntax) number own) own
      (sym (kept.1 number at.within) ∙ (ap (table_with (placed_tables c.syntax)) at.is ∙ own_found))

  many : length (tables_in_order c.syntax) ≡ length names
  many = (kept_at (table_with (placed_tables c.syntax)) names [] own each_found).0

  within : number < length (tables_in_order c.syntax)
  within = subst (λ (l : ℕ). number < l) (sym many) at.within

  abbrev sig : TableSig
  sig = table_sig c.syntax k.locals (scope_in_control c.syntax k) t

  length_same : (ps : List Placed) → length (map (placed_sig c.syntax) ps) ≡ length ps
  length_same [] = refl
  length_same (p ∷ ps) = ap suc (length_same ps)

  abbrev sigs : List TableSig
  sigs = map (placed_sig c.syntax) (tables_in_order c.syntax)

  sig_there : get_or sigs number sig ≡ sig
  sig_there = get_or-map (placed_sig c.syntax) (tables_in_order c.syntax) number own sig within ∙ ap (placed_sig c.syntax) stands_there

  filled_so : AllZip FitsFill sigs c.entries.tables → FitsFill sig (fill_of (around_control c place k) t) × (get_or (filled_tables sigs c.entries.tables) number ready.no_table ≡ filled_of sig (fill_of (around_control c place k) t))
  filled_so all =
      let both = zip_at FitsFill sigs c.entries.tables number sig ready.no_fill ready.no_table all (subst (λ (l : ℕ). number < l) (sym (length_same (tables_in_order c.syntax))) within) in
      subst (λ (x : TableSig). FitsFill x (fill_of (around_control c place k) t) × (get_or (filled_tables sigs c.entries.tables) number ready.no_table ≡ filled_of x (fill_of (around_control c place k) t))) sig_there both

  pub table_filled : (fill : ready.Fill) → fill.tables ≡ tables_of (signature16 c.syntax) c.entries → fill.fills ≡ c.entries.tables → Fits c.entries (signature16 c.syntax) → (r : ready.Table) → r.number ≡ table_number c.syntax t → FitsFill sig (fill_of (around_control c place k) t) × IsFilled (around_control c place k) t fill r
  unfolding signature16
  table_filled fill tables fills fits r is =
      let both = filled_so fits.tables in (
        both.0,
        record {
          table =
              ap (λ (i : ℕ). get_or fill.tables i ready.no_table) is
              ∙ (ap (λ (l : List Filled). get_or l (table_number c.syntax t) ready.no_table) tables ∙ both.1);
          fill =
              ap (λ (i : ℕ). get_or fill.fills i ready.no_fill) is
              ∙ ap (λ (l : List TableFill). get_or l (table_number c.syntax t) ready.no_fill) fills;
        },
      )
