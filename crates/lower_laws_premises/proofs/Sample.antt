-- That what is asked of a lowering and of a text can be met: two headers and a stack of one type, metadata, a register, a counter,
-- a direct counter, a list that an action preserves, and the action's parameter.
use Rattle.std.proofs.Common.{◌≡◌, ℕ, zero, suc, ◌<◌, ◌^◌, true, false, Some, None, List, [], ◌∷◌, map, get_or, refl, sym, ◌∙◌, arith}
use Rattle.std.specs.Prelude.{codes}
use Rattle.p414_syntax.specs.declared.lexeme.Literal.{Literal}
use Rattle.p414_syntax.specs.declared.actions.Arg.TheVariants as arg
use Rattle.p414_syntax.specs.declared.calculations.Item.TheVariants as item
use Rattle.p414_syntax.specs.declared.headers.FieldWidth.TheVariants.{Bits}
use Rattle.p414_syntax.specs.declared.headers.Header.{Header}
use Rattle.p414_syntax.specs.declared.objects.CounterType.TheVariants.{Packets}
use Rattle.p414_syntax.specs.declared.objects.StateAttr.TheVariants as state_attr
use Rattle.p414_syntax.specs.declared.parts.Inst.{Inst}
use Rattle.p414_syntax.specs.declared.syntax.Decl.{Decl}
use Rattle.p414_syntax.specs.declared.syntax.Decl.TheVariants as decl
use Rattle.p414_syntax.specs.declared.syntax.Sort.TheVariants as sort
use Rattle.p414_syntax.specs.declared.tables.TableAttr.TheVariants as table_attr
use Rattle.p414_syntax.specs.Names.{Name, declared_in, numbered}
use Rattle.p414_sem.specs.Signatures.{parameter_widths}
use Rattle.v1_core.specs.Frames.{Owner}
use Rattle.v1_core.specs.Surroundings.{World}
use Rattle.agreement_of_meanings.specs.Shown.{NamedField, as_header, as_stack, as_metadata, fields_of, width_of}
use Rattle.lower_laws_base.specs.Context.{Lowering, shown_in}
use Rattle.lower_laws_states.specs.Fits.{widths_at}
use Rattle.lower_laws_base.specs.Between.{every}
use Rattle.lower_laws_base.specs.Types.{ShownDecl}
use Rattle.lower_laws_program.specs.Program.{root_name, root_struct}
use Rattle.lower_laws_program.specs.TypesFit.{StackShown}
use Rattle.lower_laws_program.specs.Fits.{nothing_copied, nothing_spare}
use Rattle.p414_syntax.specs.SpeltLexemes.{is_spelt_literal}
use Rattle.p414_syntax.specs.declared.parts.Number.{Number}
use Rattle.p414_syntax.specs.Conditions.{is_decl}
use Rattle.p414_syntax.specs.declared.place.ArgumentPlace.TheVariants as place
use Rattle.p414_syntax.specs.Arguments.{number_argument}
use Rattle.p414_syntax.specs.Calls.{takes_number}
use Rattle.p414_syntax.specs.Unsupported.{declares_unsupported}
use Rattle.p414_syntax.specs.Widths.{declares_bad_width}
use Rattle.p414_sem.specs.Operations.{source_of}
use Rattle.lower_laws_actions.specs.Fits.{IsSmall}
use Rattle.lower_laws_premises.specs.Literals.{IsSpelt}
use Rattle.lower_laws_names.specs.Marks.{marks}
use Rattle.lower_laws_premises.specs.Shown.{cell_width, objects_shown, Shows}
use Rattle.lower_laws_premises.proofs.Marks.{shows_marks}
use Rattle.lower_laws_premises.proofs.Objects.{direct_is}
use Rattle.lower_laws_actions.specs.Actions.{CounterIs}

abbrev number : ℕ → Literal
number n = record { width = None; value = n }

abbrev inst : Name → Inst
inst called = record { name = called; index = None }

abbrev ds : List Decl
ds =
    decl.HeaderType (record { name = codes "h_t"; fields = record { name = codes "x"; width = Bits (number 8); attributes = [] } ∷ []; tails = [] })
    ∷ decl.HeaderType (record { name = codes "m_t"; fields = record { name = codes "q"; width = Bits (number 4); attributes = [] } ∷ []; tails = [] })
    ∷ decl.Header (record { header_type = codes "h_t"; name = codes "h"; size = None })
    ∷ decl.Header (record { header_type = codes "h_t"; name = codes "k"; size = None })
    ∷ decl.Header (record { header_type = codes "h_t"; name = codes "s"; size = Some (number 2) })
    ∷ decl.Metadata (record { header_type = codes "m_t"; name = codes "m"; initials = None })
    ∷ decl.FieldList (record { name = codes "l"; items = item.Field (record { instance = inst (codes "m"); field = codes "q" }) ∷ [] })
    ∷ decl.Register (record { name = codes "r"; attributes = state_attr.Width (number 16) ∷ state_attr.InstanceCount (number 2) ∷ [] })
    ∷ decl.Counter (record { name = codes "n"; attributes = state_attr.Counts Packets ∷ state_attr.InstanceCount (number 4) ∷ [] })
    ∷ decl.Counter (record { name = codes "e"; attributes = state_attr.Counts Packets ∷ state_attr.Direct (codes "t") ∷ [] })
    ∷ decl.Action (record {
      name = codes "a";
      parameters = codes "v" ∷ [];
      calls =
          record { name = codes "register_write"; arguments = arg.Instance (inst (codes "r")) ∷ arg.Number (record { sign = None; literal = number 1 }) ∷ arg.Instance (inst (codes "v")) ∷ [] }
          ∷ record { name = codes "resubmit"; arguments = arg.Instance (inst (codes "l")) ∷ [] } ∷ [];
    })
    ∷ decl.Table (record { name = codes "t"; attributes = table_attr.Actions (codes "a" ∷ []) ∷ [] }) ∷ []

pub spelt : IsSpelt ds
spelt = record { tokens = refl; grammar = refl }

abbrev same : Name → Name
same called = called

abbrev named : Name → ℕ → NamedField
named called width = record { called = called; width = width }

abbrev size_of : ℕ → ℕ
size_of (suc (suc zero)) = 2
size_of _ = 1

abbrev type_of : ℕ → Name
type_of (suc (suc (suc k))) = codes "m_t_m0_"
type_of _ = codes "h_t"

module _ (w : World) (members : Owner → List Name) where
  abbrev c : Lowering
  c = record {
    layout = record {
      names = record {
        instances = as_header (codes "h") (named (codes "x") 8 ∷ []) ∷ as_header (codes "k") (named (codes "x") 8 ∷ []) ∷ as_stack (codes "s") (named (codes "x") 8 ∷ []) ∷ as_metadata (codes "m") (named (codes "q") 4 ∷ []) ∷ [];
        marks = marks ds;
      };
      size_of = size_of;
      has = every;
      members = members;
      variables = [];
      shapes = [];
    };
    root = root_name;
    copy = nothing_copied;
    objects = objects_shown same ds;
    spare = nothing_spare;
    parameters = named (codes "v") 16 ∷ [];
    can_write = every;
    root_type = root_struct;
    type_of = type_of;
    packet = None;
    world = w;
  }

  four : (P : ℕ → Type 0) → P 0 → P 1 → P 2 → P 3 → (k : ℕ) → k < 4 → P k
  four P a b d e zero lt = a
  four P a b d e (suc zero) lt = b
  four P a b d e (suc (suc zero)) lt = d
  four P a b d e (suc (suc (suc zero))) lt = e
  four P a b d e (suc (suc (suc (suc k)))) lt = absurd (omega (arith, lt))

  -- a header is one of the first three, all of one type
  fields_are : (i : ℕ) (h : Header) → numbered sort.Instance ds i ≡ Some (decl.Header h) → fields_of (shown_in c i) ≡ named (codes "x") 8 ∷ []
  fields_are zero h e = refl
  fields_are (suc zero) h e = refl
  fields_are (suc (suc zero)) h e = refl
  fields_are (suc (suc (suc zero))) h e = absurd (cc e)
  fields_are (suc (suc (suc (suc k)))) h e = absurd (cc e)

  types_are : (i : ℕ) (h : Header) → numbered sort.Instance ds i ≡ Some (decl.Header h) → type_of i ≡ codes "h_t"
  types_are zero h e = refl
  types_are (suc zero) h e = refl
  types_are (suc (suc zero)) h e = refl
  types_are (suc (suc (suc zero))) h e = absurd (cc e)
  types_are (suc (suc (suc (suc k)))) h e = absurd (cc e)

  pub shows : Shows c ds
  shows = record {
    instances = record {
      decls = record { all = refl; each = λ k lt d. four (λ j. ShownDecl ds (get_or (declared_in sort.Instance ds) j d) (shown_in c j) (size_of j)) (refl, refl, refl) (refl, refl, refl) (refl, refl) (refl, refl) k lt };
      stacks = λ k lt d. four (λ j. StackShown (get_or (declared_in sort.Instance ds) j d) (shown_in c j)) (λ is. absurd (cc is)) (λ is. absurd (cc is)) (λ is. (codes "s", named (codes "x") 8 ∷ [], refl)) tt k lt;
      widths = four (λ j. widths_at ds j ≡ map width_of (fields_of (shown_in c j))) refl refl refl refl;
      fields = λ i j h k e f is. fields_are i h e ∙ sym (fields_are j k f);
      types = λ i j h k e f is. types_are i h e ∙ sym (types_are j k f);
    };
    roots = record { headers = refl; metadata = refl; standard = refl };
    new = same;
    objects = refl;
    marks = shows_marks c ds refl refl;
  }

  -- the parameter has the bits of the register that it is written to, and the table's counter is the first object by name
  pub parameters_are : map width_of c.parameters ≡ parameter_widths ds 0
  parameters_are = refl

  pub counter_is : CounterIs c (Some 0)
  counter_is = direct_is c ds same refl refl (codes "t")

-- Why a text is asked for: no rule of P4_14 sees a register with neither a width nor a layout, nor a number of 129 bits. The grammar
-- and the numbers of a text refuse both.

abbrev without_width : Decl
without_width = decl.Register (record { name = codes "r"; attributes = state_attr.InstanceCount (number 4) ∷ [] })

pub unseen : (declares_bad_width without_width ≡ false) × (declares_unsupported without_width ≡ false) × (cell_width without_width ≡ 0) × (is_decl without_width ≡ false)
unseen = (refl, refl, refl, refl)

abbrev too_great : Number
too_great = record { sign = None; literal = number (2 ^ 128) }

pub too_great_taken : (takes_number place.Source too_great ≡ true) × (IsSmall (source_of ds (number_argument too_great)) → ⊥) × (is_spelt_literal too_great.literal ≡ false)
too_great_taken = (refl, λ lt. omega (arith, lt), refl)
