-- An accepted program meets what is asked of it: all follows from that a primitive names what is there.
use Rattle.std.proofs.Common.{◌≡◌, ℕ, Some, List, [], length, sym, ap, ◌∙◌, subst, arith, ⊎_elim}
use Rattle.std.specs.List.{AllByRecursion}
use Rattle.std.proofs.lemmas.Bool.{cases_lt}
use Rattle.std.proofs.lemmas.List.{get_or_past}
use Rattle.p414_syntax.specs.declared.syntax.Decl.{Decl}
use Rattle.p414_syntax.specs.declared.syntax.Decl.TheVariants as decl
use Rattle.p414_syntax.specs.declared.syntax.Sort.TheVariants as sort
use Rattle.p414_syntax.specs.Names.{numbered, is_in, declared_in}
use Rattle.p414_syntax.specs.Breaks.{BreaksNone, program_rules}
use Rattle.p414_syntax.specs.Arguments.{Invocation, actions}
use Rattle.p414_syntax.specs.Lists.{calculated_fields}
use Rattle.p414_syntax.specs.Targets.{is_metadata_in}
use Rattle.p414_sem.specs.Packing.{widths_of_type}
use Rattle.p414_sem.specs.Expanded.{Expanded, IsExpanded, primitives_at}
use Rattle.p414_sem.specs.Operations.{Primitive, write, remove_header, copy_header, pop, execute_meter, ask, primitive_of}
use Rattle.lower_laws_states.specs.Fits.{widths_in, OfInstance, IsNoMetadata, IsAlike, FitsPrimitive}
use Rattle.lower_laws_states.specs.Programs.{FewTables, ProgramFits}
use Rattle.lower_laws_states.specs.Arrival.{PrimitiveKeeps, StatementKeeps, InstanceKeeps, ProgramKeeps}
use Rattle.lower_laws_states.specs.Standing.{CopyStands, PrimitiveStands}
use Rattle.lower_laws_states.proofs.Members.{each_has, each_weaker}
use Rattle.lower_laws_states.proofs.Declared.{kept_has}
use Rattle.lower_laws_states.proofs.Accepted.{accepted_states, state_has}
use Rattle.lower_laws_states.proofs.Writable.{set_keeps, instance_keeps, calculated_keeps}
use Rattle.lower_laws_states.proofs.Standing.{accepted_stands}

-- a primitive that names what is there fits, and writes nothing of how a packet came here

same_instance : (ds : List Decl) (i : ℕ) (d other : Decl) → numbered sort.Instance ds i ≡ Some other → numbered sort.Instance ds i ≡ Some d → d ≡ other
same_instance ds i d other e f = cc (e, f)

copy_fits : (ds : List Decl) (at from : _) → CopyStands ds at from → IsNoMetadata ds at.instance × OfInstance ds at.instance (λ d. IsAlike ds d from)
copy_fits ds at from is = (
  λ d e. ap is_metadata_in (same_instance ds at.instance d (decl.Header is.to.header) is.to.numbered_so e),
  λ d e. record {
    other = decl.Header is.source.header;
    numbered_so = is.source.numbered_so;
    element = is.source.element;
    widths = ap (widths_of_type ds) (sym is.same) ∙ ap (widths_in ds) (sym (same_instance ds at.instance d (decl.Header is.to.header) is.to.numbered_so e));
  },
)

stands_fit : (ds : List Decl) (x : Expanded) (count : ℕ) (p : Primitive) → PrimitiveStands ds x count p → FitsPrimitive ds p
stands_fit ds x count (write sums target term) is = is.0.fits
stands_fit ds x count (remove_header at) is = λ d e. ap is_metadata_in (same_instance ds at.instance d (decl.Header is.header) is.numbered_so e)
stands_fit ds x count (copy_header at from) is = copy_fits ds at from is
stands_fit ds x count (pop i elements) is = λ d e. ap is_metadata_in (same_instance ds i d (decl.Header is.header) is.numbered_so e)
stands_fit ds x count (execute_meter object index target) is = is.2.fits
stands_fit ds x count (ask kind session list) is = is.1
stands_fit ds x count _ is = tt

stands_keep : (ds : List Decl) (x : Expanded) (count : ℕ) (p : Primitive) → PrimitiveStands ds x count p → PrimitiveKeeps p
stands_keep ds x count (write sums target term) is = is.0.writable
stands_keep ds x count (execute_meter object index target) is = is.2.writable
stands_keep ds x count _ is = tt

module _ (ds : List Decl) (none : BreaksNone ds program_rules) (x : Expanded) (is : IsExpanded ds x) where
  -- what follows of each primitive that is there holds of what every action comes to
  each_action : (P : Primitive → Type 0) → ((count : ℕ) (p : Primitive) → PrimitiveStands ds x count p → P p) → (n : ℕ) → AllByRecursion (λ i. P (primitive_of ds x i)) (primitives_at x n)
  each_action P follows n =
      ⊎_elim (λ lt. each_weaker _ (λ i. P (primitive_of ds x i)) (λ i stands. follows _ (primitive_of ds x i) stands) (primitives_at x n) (accepted_stands ds none x is n lt))
      (λ past. subst (λ (l : List Invocation). AllByRecursion (λ i. P (primitive_of ds x i)) l) (sym (get_or_past x.actions n [] (omega (arith, past, is.all_actions)))) tt) (cases_lt n (length (actions ds)))

  pub actions_fit : (n : ℕ) → AllByRecursion (λ i. FitsPrimitive ds (primitive_of ds x i)) (primitives_at x n)
  actions_fit = each_action (FitsPrimitive ds) (stands_fit ds x)

  pub accepted_fits : FewTables ds → ProgramFits ds x
  accepted_fits few = record { few = few; actions = actions_fit; states = accepted_states ds none }

  pub accepted_keeps : ProgramKeeps ds x
  accepted_keeps = record {
    actions = each_action PrimitiveKeeps (stands_keep ds x);
    states = λ name p e. each_has (StatementKeeps ds) p.statements (set_keeps ds none p (state_has ds name p e));
    instances = each_has InstanceKeeps (declared_in sort.Instance ds) (λ d h. instance_keeps ds none d (kept_has (is_in sort.Instance) ds d h));
    calculated = each_has _ (calculated_fields ds) (calculated_keeps ds none);
  }
