-- New names are spelt: those of what a sort declares, of copies of actions and what tables call them, of objects and parameters, and of
-- the variables of primitives.
use Rattle.std.proofs.Common.{◌≡◌, ◌⊎◌, inl, inr, ℕ, zero, suc, ◌+◌, ◌<◌, ◌≤◌, ◌^◌, Bool, true, false, not, ◌&&◌, cond, Option, Some, None, option_map, List, [], ◌∷◌, ◌++◌, length, map, get_or, refl, sym, ap, ap₂, ◌∙◌, subst, arith}
use Rattle.std.specs.Prelude.{codes, is_some, nat_lt, replicate, filter_map, slice_get, ◌||◌}
use Rattle.std.specs.List.{list_all, list_any, AllByRecursion}
use Rattle.std.specs.Option.{option_map_or}
use Rattle.std.specs.Str.{bytes_eq}
use Rattle.std.proofs.lemmas.Bool.Decides.{nat_tests}
use Rattle.token_division.specs.Octets.{is_decimal, is_word}
use Rattle.p414_syntax.specs.declared.actions.Action.{Action}
use Rattle.p414_syntax.specs.declared.syntax.Decl.{Decl}
use Rattle.p414_syntax.specs.declared.syntax.Decl.TheVariants as decl
use Rattle.p414_syntax.specs.declared.syntax.Rule14.TheVariants as rule
use Rattle.p414_syntax.specs.declared.syntax.Sort.{Sort}
use Rattle.p414_syntax.specs.declared.syntax.Sort.TheVariants as sort
use Rattle.p414_syntax.specs.SpeltLexemes.{is_identifier}
use Rattle.p414_syntax.specs.Arguments.{actions, action_in}
use Rattle.p414_syntax.specs.Names.{Name, name_in, names_in}
use Rattle.p414_sem.specs.Expanded.{Expanded}
use Rattle.p414_sem.specs.Operations.{in_order}
use Rattle.p414_sem.specs.Signatures.{counts_entries_of, first_name}
use Rattle.p416_syntax.specs.declared.keyword.Keyword16.{Keyword16}
use Rattle.p416_syntax.specs.Keywords.{keyword_text16, all_keywords16, is_among16, is_reserved16}
use Rattle.agreement_of_meanings.specs.Shown.{NamedField, field_at}
use Rattle.lower_laws_names.specs.Made.{called}
use Rattle.lower_laws_names.specs.NewNames.{copy_letter, variable_letter, made_thing, new_name, thing, copy_thing}
use Rattle.lower_laws_names.specs.Reaches.{Outer, declared, copy, outer_name}
use Rattle.lower_laws_names.specs.Copies.{Listing, listings, Copy, plain_copy, counted_copy, listing_outer, outer_in}
use Rattle.lower_laws_names.proofs.OneSort.{is_numbered}
use Rattle.lower_laws_names.proofs.Proved.{names_are_writable}
use Rattle.lower_laws_base.specs.Context.{ObjectName, object_at}
use Rattle.lower_laws_states.specs.Expansions.{Has}
use Rattle.lower_laws_states.proofs.Members.{has_at, has_picked, picked_has}
use Rattle.lower_laws_states.proofs.Declared.{declared_has}
use Rattle.lower_laws_premises.proofs.Literals.{declared_action}
use Rattle.lower_laws_premises.proofs.Rules.{has_so}
use Rattle.lower_laws_rules.specs.Spelling.{SpeltName}
use Rattle.lower_laws_block_rules.specs.Tables.{OptionSpelt}
use Rattle.lower_laws_declared.specs.Objects.{objects_by_number}
use Rattle.lower_laws_declared.proofs.Listed.{all_lines_fit}
use Rattle.lower_laws_declared.proofs.Numbers.{object_there}
use Rattle.lower_laws_declared.proofs.Objects.{object_name_at}
use Rattle.lower_laws_translated.specs.Given.{IsGiven}
use Rattle.lower_laws_translated.specs.Translated.{far_name, near_name, spare_name, parameters_from, new_parameters_of, counter_called, is_in_egress, translated}
use Rattle.lower_laws_translated.proofs.Copies.{IsOf, outer_from}
use Rattle.lower_laws_translated.proofs.Inner.{made_proper, long_none}
use Rattle.lower_laws_translated.proofs.Locals.{line_fits}
use Rattle.lower_laws_translated.proofs.NamesRead.{writable_spelt, declared_read, new_parameter_spelt}
use Rattle.lower_laws_translated.proofs.Parts.{parts_are}
use Rattle.lower_laws_translated.proofs.Spares.{far_long}
use Rattle.lower_laws_translated.proofs.TablesKept.{direct_of, first_has}

-- a name that is made of an identifier
pub made_spelt : (a k : ℕ) (n : Name) → is_decimal a ≡ false → is_word a ≡ true → k < 2 ^ 32 → is_identifier n ≡ true → SpeltName (called (made_thing a k n))
made_spelt a k n letter word small is = writable_spelt (called (made_thing a k n)) (names_are_writable.writable (made_thing a k n) (made_proper a k n letter word small) is)

-- Names of variables of primitives. A far name is no reserved word, since it is longer than each.

letters : (i : ℕ) → list_all is_word (replicate i 98) ≡ true
letters zero = refl
letters (suc i) = letters i

tail_letters : (K i : ℕ) → list_all is_word (replicate K 97 ++ replicate i 98) ≡ true
tail_letters zero i = letters i
tail_letters (suc K) i = tail_letters K i

among_same : (text : Name) (words : List Keyword16) → is_among16 text words ≡ list_any (bytes_eq text) (map keyword_text16 words)
among_same text [] = refl
among_same text (w ∷ words) = ap (λ (b : Bool). bytes_eq text (keyword_text16 w) || b) (among_same text words)

far_spelt : (K i : ℕ) → SpeltName (far_name K i)
far_spelt K i =
    let unreserved : is_reserved16 (far_name K i) ≡ false = among_same (far_name K i) all_keywords16 ∙ long_none (map keyword_text16 all_keywords16) (far_name K i) refl (far_long K i) in
    ap₂ (λ (a b : Bool). a && not b) (tail_letters K i) unreserved

pub spare_spelt : (K i : ℕ) → SpeltName (spare_name K i)
spare_spelt K i = by (nat_lt K (2 ^ 32)) refl i where
  by : (b : Bool) → nat_lt K (2 ^ 32) ≡ b → (i : ℕ) → SpeltName (cond b (near_name K i) (far_name K i))
  by false e i = far_spelt K i
  by true e zero = let small : K < 2 ^ 32 = grind (arith, nat_tests, e) in made_spelt variable_letter K (codes "got") refl refl small refl
  by true e (suc zero) = let small : K < 2 ^ 32 = grind (arith, nat_tests, e) in made_spelt (variable_letter + 1) K (codes "cut") refl refl small refl
  by true e (suc (suc zero)) = let small : K < 2 ^ 32 = grind (arith, nat_tests, e) in made_spelt (variable_letter + 2) K (codes "colour") refl refl small refl
  by true e (suc (suc (suc i))) = far_spelt K (suc (suc (suc i)))

-- fields, by their places or one by one

abbrev pub NameSpelt : NamedField → Type 0
NameSpelt f = SpeltName f.called

pub spelt_at : (fs : List NamedField) → AllByRecursion NameSpelt fs → (j : ℕ) → j < length fs → SpeltName (field_at fs j).called
spelt_at [] all j lt = absurd (omega (arith, lt))
spelt_at (f ∷ fs) all zero lt = all.0
spelt_at (f ∷ fs) all (suc j) lt = spelt_at fs all.1 j (omega (arith, lt))

pub each_spelt : (fs : List NamedField) → ((j : ℕ) → j < length fs → SpeltName (field_at fs j).called) → AllByRecursion NameSpelt fs
each_spelt [] at = tt
each_spelt (f ∷ fs) at = (at zero (omega arith), each_spelt fs (λ j lt. at (suc j) (omega (arith, lt))))

module _ (ds : List Decl) (x : Expanded) (given : IsGiven ds x) where
  -- what a sort declares

  pub sort_read : (s : Sort) (n : Name) → Has (names_in s ds) n → is_identifier n ≡ true
  sort_read s n h = let d = picked_has (name_in s) ds n h in declared_read ds given.spelt s d.0 n d.1 d.2

  pub sort_spelt : (s : Sort) (n : Name) → Has (names_in s ds) n → SpeltName (new_name ds s n)
  sort_spelt s n h =
      writable_spelt (new_name ds s n)
      (names_are_writable.writable (thing ds s n) (names_are_writable.of_sorts ds s n (is_numbered ds s n given.short.few (has_so (names_in s ds) n h))) (sort_read s n h))

  -- copies of actions, each of a line of a table

  abbrev ls : List Listing
  ls = listings ds (is_in_egress ds x)

  line_action : (l : Listing) → Has ls l → Has (names_in sort.Action ds) l.action
  line_action l h = declared_has ds sort.Action l.action (ap is_some (line_fits ds ls l (all_lines_fit ds given.none given.short (is_in_egress ds x)) h).0.found)

  plain_spelt : (l : Listing) → Has ls l → SpeltName (new_name ds sort.Action l.action)
  plain_spelt l h = sort_spelt sort.Action l.action (line_action l h)

  counted_spelt : (l : Listing) → Has ls l → SpeltName (called (copy_thing l.number l.action))
  counted_spelt l h = made_spelt copy_letter l.number l.action refl refl (line_fits ds ls l (all_lines_fit ds given.none given.short (is_in_egress ds x)) h).1 (sort_read sort.Action l.action (line_action l h))

  pub outer_spelt : (c : Copy) → IsOf ls c → SpeltName (outer_name ds c.outer)
  outer_spelt c of = by of.is where
    by : (c ≡ plain_copy of.line) ⊎ ((of.line.is_counted ≡ true) × (c ≡ counted_copy of.line)) → SpeltName (outer_name ds c.outer)
    by (inl e) = subst (λ (d : Copy). SpeltName (outer_name ds d.outer)) (sym e) (plain_spelt of.line of.has)
    by (inr (counts, e)) = subst (λ (d : Copy). SpeltName (outer_name ds d.outer)) (sym e) (counted_spelt of.line of.has)

  -- what a table calls an action
  line_spelt : (l : Listing) → Has ls l → SpeltName (outer_name ds (listing_outer l))
  line_spelt l h = by l.is_counted where
    by : (b : Bool) → SpeltName (outer_name ds (cond b (copy l.number l.action) (declared sort.Action l.action)))
    by true = counted_spelt l h
    by false = plain_spelt l h

  pub label_spelt : (table : ℕ) (action text : Name) → option_map (outer_name ds) (outer_in ls table action) ≡ Some text → SpeltName text
  label_spelt table action text e = by (outer_in ls table action) refl e where
    by : (o : Option Outer) → outer_in ls table action ≡ o → option_map (outer_name ds) o ≡ Some text → SpeltName text
    by None f e = absurd (cc e)
    by (Some o) f e =
        let from = outer_from ls table action o f in
        subst SpeltName (inside (outer_name ds o) text e) (subst (λ (z : Outer). SpeltName (outer_name ds z)) from.outer (line_spelt from.line from.has))
      where
        inside : (a b : Name) → Some a ≡ Some b → a ≡ b
        inside a b g = cc g

  -- objects, and the direct counter of a table

  pub objects_spelt : (j : ℕ) → j < length (objects_by_number ds) → SpeltName (object_at (objects_by_number ds) j).called
  objects_spelt j lt =
      subst SpeltName (sym (ap (λ (o : ObjectName). o.called) (object_name_at ds j lt)))
      (sort_spelt sort.Object (get_or (in_order (names_in sort.Object ds)) j []) (object_there ds given.none given.short x (translated ds x rule.Sequential) (parts_are ds x rule.Sequential) j lt))

  pub counter_spelt : (table : Name) → OptionSpelt (counter_called ds table)
  counter_spelt table = by (first_name (filter_map (counts_entries_of table) ds)) refl where
    by : (o : Option Name) → first_name (filter_map (counts_entries_of table) ds) ≡ o → OptionSpelt (option_map (new_name ds sort.Object) o)
    by None f = tt
    by (Some n) f =
        let d = picked_has (counts_entries_of table) ds n (first_has (filter_map (counts_entries_of table) ds) n f) in
        sort_spelt sort.Object n (has_picked (name_in sort.Object) ds d.0 n d.1 (direct_of table d.0 n d.2).0)

  -- the parameters of an action

  named_spelt : (action : ℕ) (a : Action) → Has ds (decl.Action a) → (names : List Name) (p : ℕ) → ((n : Name) → Has names n → Has a.parameters n) → p + length names ≤ 2 ^ 32 → AllByRecursion NameSpelt (parameters_from ds action p names)
  named_spelt action a h [] p there few = tt
  named_spelt action a h (n ∷ names) p there few =
      (new_parameter_spelt ds given.spelt a n p h (there n (inl refl)) (omega (arith, few)), named_spelt action a h names (p + 1) (λ m is. there m (inr is)) (omega (arith, few)))

  pub parameters_spelt : (action : ℕ) → AllByRecursion NameSpelt (new_parameters_of ds action)
  parameters_spelt action = by (slice_get (actions ds) action) refl where
    by : (o : Option Action) → slice_get (actions ds) action ≡ o → AllByRecursion NameSpelt (option_map_or (λ (a : Action). parameters_from ds action 0 a.parameters) o [])
    by None e = tt
    by (Some a) e =
        let h = has_at (actions ds) action a e in
        let d = picked_has action_in ds a h in
        named_spelt action a (subst (Has ds) (declared_action d.0 a d.2) d.1) a.parameters 0 (λ n is. is) (omega (arith, given.few_parameters a h))
