-- What stands at a place of the instances: its number, how it is shown, and its fields.
use Rattle.std.proofs.Common.{◌≡◌, inl, inr, ℕ, zero, suc, ◌+◌, ◌<◌, true, Option, Some, None, List, [], ◌∷◌, length, map, get_or, refl, sym, ap, ◌∙◌, arith}
use Rattle.std.specs.Prelude.{filter, is_some}
use Rattle.std.specs.Option.{option_map_or}
use Rattle.std.proofs.lemmas.Bool.{true≢false}
use Rattle.std.proofs.lemmas.List.{length-map}
use Rattle.p414_syntax.specs.declared.lexeme.Literal.{Literal}
use Rattle.p414_syntax.specs.declared.headers.Field.{Field}
use Rattle.p414_syntax.specs.declared.headers.Header.{Header as Header14}
use Rattle.p414_syntax.specs.declared.syntax.Decl.{Decl}
use Rattle.p414_syntax.specs.declared.syntax.Decl.TheVariants as decl
use Rattle.p414_syntax.specs.declared.syntax.Sort.TheVariants as sort
use Rattle.p414_syntax.specs.Views.{HeaderTypeTree}
use Rattle.p414_syntax.specs.Names.{Name, is_in, declared_in}
use Rattle.p414_syntax.specs.Fields.{type_of, field_bits}
use Rattle.p414_sem.specs.Packing.{type_widths, widths_of_type}
use Rattle.agreement_of_meanings.specs.Shown.{Shown, as_header, as_stack, as_metadata, fields_of, width_of, shown_at, nothing_shown}
use Rattle.lower_laws_names.specs.Instances.{named_from, type_fields, named_fields, shown_header, shown_instances}
use Rattle.lower_laws_names.specs.Types.{Member, members_from, members}
use Rattle.lower_laws_names.specs.Declared.{Among, IsShownAs, AreShownAs}
use Rattle.lower_laws_names.proofs.Marked.{members_are_shown}
use Rattle.lower_laws_states.specs.Fits.{widths_in}
use Rattle.lower_laws_base.specs.Types.{ShownDecl}
use Rattle.lower_laws_program.specs.TypesFit.{StackShown}
use Rattle.lower_laws_declared.specs.Layout.{no_member, member_at}

-- how an instance is shown is told by its place

shown_among : (ms : List Member) (k : ℕ) → get_or (map (λ (m : Member). m.shown) ms) k nothing_shown ≡ (get_or ms k no_member).shown
shown_among [] zero = refl
shown_among [] (suc k) = refl
shown_among (m ∷ ms) zero = refl
shown_among (m ∷ ms) (suc k) = shown_among ms k

among_place : (ms : List Member) (k : ℕ) → k < length ms → Among (get_or ms k no_member) ms
among_place [] k lt = absurd (omega (arith, lt))
among_place (m ∷ ms) zero lt = inl refl
among_place (m ∷ ms) (suc k) lt = inr (among_place ms k (omega (arith, lt)))

-- the widths of fields

named_widths : (number : ℕ) (fields : List Field) → map width_of (named_from number fields) ≡ map field_bits fields
named_widths number [] = refl
named_widths number (f ∷ fields) = ap (λ (ws : List ℕ). field_bits f ∷ ws) (named_widths (number + 1) fields)

-- an instance beside its declaration
pub record IsMember (ds : List Decl) (d : Decl) (m : Member) : Type 0 where
  pub stack : StackShown d m.shown
  pub widths : widths_in ds d ≡ map width_of (fields_of m.shown)

module _ (ds : List Decl) where
  type_widths_are : (type : Name) → widths_of_type ds type ≡ map width_of (named_fields ds type)
  type_widths_are type = by (type_of ds type) where
    by : (o : Option HeaderTypeTree) → option_map_or type_widths o [] ≡ map width_of (option_map_or type_fields o [])
    by None = refl
    by (Some t) = sym (named_widths 0 t.fields)

  header_is : (x : Header14) (size : Option Literal) (m : Member) → x.size ≡ size → m.shown ≡ shown_header ds x.header_type x.name size → IsMember ds (decl.Header x) m
  header_is x None m none is = record {
    stack = λ some. absurd (true≢false (sym some ∙ ap is_some none));
    widths = type_widths_are x.header_type ∙ sym (ap (λ (s : Shown). map width_of (fields_of s)) is);
  }
  header_is x (Some n) m some is = record {
    stack = λ e. (_, _, is);
    widths = type_widths_are x.header_type ∙ sym (ap (λ (s : Shown). map width_of (fields_of s)) is);
  }

  abbrev AreMembers : List Decl → List Member → Type 0
  AreMembers [] ms = Unit {0}
  AreMembers (d ∷ es) [] = Unit {0}
  AreMembers (d ∷ es) (m ∷ ms) = IsMember ds d m × AreMembers es ms

  are_members : (k i : ℕ) (es : List Decl) → AreMembers (filter (is_in sort.Instance) es) (members_from ds k i es)
  are_members k i [] = tt
  are_members k i (decl.Header x ∷ es) = (header_is x x.size _ refl refl, are_members (k + 1) i es)
  are_members k i (decl.Metadata x ∷ es) = (record { stack = tt; widths = type_widths_are x.header_type }, are_members (k + 1) (i + 1) es)
  are_members k i (d ∷ es) = are_members k i es

  at_member : (es : List Decl) (ms : List Member) (j : ℕ) (d : Decl) → length es ≡ length ms → j < length ms → AreMembers es ms → IsMember ds (get_or es j d) (get_or ms j no_member)
  at_member [] ms j d same lt are = absurd (omega (arith, same, lt))
  at_member (e ∷ es) [] j d same lt are = absurd (omega (arith, lt))
  at_member (e ∷ es) (m ∷ ms) zero d same lt are = are.0
  at_member (e ∷ es) (m ∷ ms) (suc j) d same lt are = at_member es ms j d (omega (arith, same)) (omega (arith, lt)) are.1

  -- the number, and how it is shown

  same_count : (k : ℕ) (es : List Decl) (ms : List Member) → AreShownAs ds k es ms → length es ≡ length ms
  same_count k [] [] are = refl
  same_count k (e ∷ es) (m ∷ ms) are = ap suc (same_count (k + 1) es ms are.2)
  same_count k [] (m ∷ ms) are = absurd are
  same_count k (e ∷ es) [] are = absurd are

  shown_place : (k : ℕ) (es : List Decl) (ms : List Member) (j : ℕ) (d : Decl) → AreShownAs ds k es ms → j < length ms → IsShownAs ds (get_or es j d) (get_or ms j no_member).shown (get_or ms j no_member).size
  shown_place k [] [] j d are lt = absurd (omega (arith, lt))
  shown_place k (e ∷ es) (m ∷ ms) zero d are lt = are.1
  shown_place k (e ∷ es) (m ∷ ms) (suc j) d are lt = shown_place (k + 1) es ms j d are.2 (omega (arith, lt))
  shown_place k [] (m ∷ ms) j d are lt = absurd are
  shown_place k (e ∷ es) [] j d are lt = absurd are

  numbers_from : (k : ℕ) (es : List Decl) (ms : List Member) (j : ℕ) → AreShownAs ds k es ms → j < length ms → (get_or ms j no_member).number ≡ k + j
  numbers_from k [] [] j are lt = absurd (omega (arith, lt))
  numbers_from k (e ∷ es) (m ∷ ms) zero are lt = omega (arith, are.0)
  numbers_from k (e ∷ es) (m ∷ ms) (suc j) are lt = let rest = numbers_from (k + 1) es ms j are.2 (omega (arith, lt)) in omega (arith, rest)
  numbers_from k [] (m ∷ ms) j are lt = absurd are
  numbers_from k (e ∷ es) [] j are lt = absurd are

  shown_so : (d : Decl) (x : Shown) (size : ℕ) → IsShownAs ds d x size → ShownDecl ds d x size
  shown_so (decl.Header d) (as_header called fields) size is = is
  shown_so (decl.Header d) (as_stack called fields) size is = is
  shown_so (decl.Metadata d) (as_metadata called fields) size is = is
  shown_so (decl.Header d) (as_metadata called fields) size is = absurd is
  shown_so (decl.Metadata d) (as_header called fields) size is = absurd is
  shown_so (decl.Metadata d) (as_stack called fields) size is = absurd is
  shown_so _ x size is = absurd is

  -- of the whole program

  pub shown_is : (k : ℕ) → shown_at (shown_instances ds) k ≡ (member_at ds k).shown
  shown_is k = ap (λ (xs : List Shown). get_or xs k nothing_shown) (sym (members_are_shown ds).instances) ∙ shown_among (members ds) k

  pub members_count : length (members ds) ≡ length (shown_instances ds)
  members_count = sym (length-map (members ds) (λ (m : Member). m.shown)) ∙ ap length (members_are_shown ds).instances

  pub declared_count : length (declared_in sort.Instance ds) ≡ length (shown_instances ds)
  declared_count = same_count 0 (declared_in sort.Instance ds) (members ds) (members_are_shown ds).each ∙ members_count

  pub member_among : (k : ℕ) → k < length (shown_instances ds) → Among (member_at ds k) (members ds)
  member_among k lt = among_place (members ds) k (omega (arith, lt, members_count))

  pub member_number : (k : ℕ) → k < length (shown_instances ds) → (member_at ds k).number ≡ k
  member_number k lt = let e : 0 + k ≡ k = omega arith in numbers_from 0 (declared_in sort.Instance ds) (members ds) k (members_are_shown ds).each (omega (arith, lt, members_count)) ∙ e

  pub member_is_shown : (k : ℕ) → k < length (shown_instances ds) → (d : Decl) → ShownDecl ds (get_or (declared_in sort.Instance ds) k d) (member_at ds k).shown (member_at ds k).size
  member_is_shown k lt d = shown_so _ _ _ (shown_place 0 (declared_in sort.Instance ds) (members ds) k d (members_are_shown ds).each (omega (arith, lt, members_count)))

  pub member_is : (k : ℕ) → k < length (shown_instances ds) → (d : Decl) → IsMember ds (get_or (declared_in sort.Instance ds) k d) (member_at ds k)
  member_is k lt d = at_member (declared_in sort.Instance ds) (members ds) k d (same_count 0 (declared_in sort.Instance ds) (members ds) (members_are_shown ds).each) (omega (arith, lt, members_count)) (are_members 0 0 ds)
