-- The codes of the values of v1_core. Proofs tell values apart by them (this project's own).
use Rattle.std.proofs.Common.{inl, inr}
use Rattle.std.specs.Prelude.{◌⊎◌, ℕ, Bool, true, false, List, [], ◌∷◌, ◌++◌, Option, refl}
use Rattle.std.specs.Coded.{Coded, code_by, coded×, coded⊎, coded_ℕ, coded_bool, coded_list, coded_option}
use Rattle.node_lists.specs.Codes.{on_two, Puts, behind_two, coded_tree}
use Rattle.fabric.specs.declared.items.Event.{Event}
use Rattle.p416_syntax.specs.Names.{Name}
use Rattle.v1_core.specs.Values.{Field, Header, Value, a_number, a_truth, an_error, a_header, a_stack, no_members, a_member, a_symbol, some_bits, no_value}
use Rattle.v1_core.specs.Frames.{Request, Frame}
use Rattle.v1_core.specs.Passes.{Held}

abbrev pub coded_name : Coded Name
coded_name = coded_list coded_ℕ

abbrev pub coded_field : Coded Field
coded_field =
    code_by (Name × (ℕ × ℕ)) (coded× coded_name (coded× coded_ℕ coded_ℕ)) (λ f. (f.called, (f.width, f.number)))
    (λ p. record { called = p.0; width = p.1.0; number = p.1.1 }) (λ _. refl)

abbrev pub coded_header : Coded Header
coded_header =
    code_by (Bool × List Field) (coded× coded_bool (coded_list coded_field)) (λ h. (h.valid, h.fields))
    (λ p. record { valid = p.0; fields = p.1 }) (λ _. refl)

-- A value without members by itself; of one with members the name of the first, whose value and the rest stand on top; no
-- members, or no value.
abbrev pub Mark : Type 0
Mark =
    (ℕ × ℕ) ⊎ (Bool ⊎ (ℕ ⊎ (Header ⊎ ((ℕ × List Header) ⊎ (Name ⊎ (List Bool ⊎ (Name ⊎ Bool)))))))

abbrev pub coded_mark : Coded Mark
coded_mark =
    coded⊎ (coded× coded_ℕ coded_ℕ)
    (coded⊎ coded_bool
    (coded⊎ coded_ℕ
    (coded⊎ coded_header
    (coded⊎ (coded× coded_ℕ (coded_list coded_header))
    (coded⊎ coded_name (coded⊎ (coded_list coded_bool) (coded⊎ coded_name coded_bool)))))))

abbrev pub member_mark : Name → Mark
member_mark called = inr (inr (inr (inr (inr (inr (inr (inl called)))))))

abbrev pub end_mark : Bool → Mark
end_mark b = inr (inr (inr (inr (inr (inr (inr (inr b)))))))

abbrev pub value_marks : Value → List Mark
value_marks (a_number width number) = inl (width, number) ∷ []
value_marks (a_truth holds) = inr (inl holds) ∷ []
value_marks (an_error number) = inr (inr (inl number)) ∷ []
value_marks (a_header of) = inr (inr (inr (inl of))) ∷ []
value_marks (a_stack place elements) = inr (inr (inr (inr (inl (place, elements))))) ∷ []
value_marks (a_symbol word) = inr (inr (inr (inr (inr (inl word))))) ∷ []
value_marks (some_bits items) = inr (inr (inr (inr (inr (inr (inl items)))))) ∷ []
value_marks no_members = end_mark true ∷ []
value_marks no_value = end_mark false ∷ []
value_marks (a_member called of rest) = value_marks of ++ (value_marks rest ++ member_mark called ∷ [])

abbrev pub end_value : Bool → Value
end_value true = no_members
end_value false = no_value

abbrev pub value_step : Mark → List Value → List Value
value_step (inl p) vs = a_number p.0 p.1 ∷ vs
value_step (inr (inl holds)) vs = a_truth holds ∷ vs
value_step (inr (inr (inl number))) vs = an_error number ∷ vs
value_step (inr (inr (inr (inl of)))) vs = a_header of ∷ vs
value_step (inr (inr (inr (inr (inl p))))) vs = a_stack p.0 p.1 ∷ vs
value_step (inr (inr (inr (inr (inr (inl word)))))) vs = a_symbol word ∷ vs
value_step (inr (inr (inr (inr (inr (inr (inl items))))))) vs = some_bits items ∷ vs
value_step (inr (inr (inr (inr (inr (inr (inr (inl called)))))))) vs = on_two (a_member called) vs
value_step (inr (inr (inr (inr (inr (inr (inr (inr b)))))))) vs = end_value b ∷ vs

pub value_puts : (v : Value) → Puts value_step (value_marks v) v
value_puts (a_number width number) = λ ms vs. refl
value_puts (a_truth holds) = λ ms vs. refl
value_puts (an_error number) = λ ms vs. refl
value_puts (a_header of) = λ ms vs. refl
value_puts (a_stack place elements) = λ ms vs. refl
value_puts (a_symbol word) = λ ms vs. refl
value_puts (some_bits items) = λ ms vs. refl
value_puts no_members = λ ms vs. refl
value_puts no_value = λ ms vs. refl
value_puts (a_member called of rest) =
    behind_two value_step (value_marks of) (value_marks rest) of rest (member_mark called) (value_puts of) (value_puts rest)

abbrev pub coded_value : Coded Value
coded_value = coded_tree coded_mark no_value value_step value_marks value_puts

abbrev pub coded_request : Coded (Option Request)
coded_request = coded_option (coded× coded_ℕ coded_ℕ)

abbrev pub coded_event : Coded Event
coded_event =
    code_by (ℕ × (Option ℕ × Option ℕ)) (coded× coded_ℕ (coded× (coded_option coded_ℕ) (coded_option coded_ℕ)))
    (λ e. (e.table, (e.entry, e.action))) (λ p. record { table = p.0; entry = p.1.0; action = p.1.1 }) (λ _. refl)

abbrev pub Values : Type 0
Values = Value × (Value × (Value × (Value × Value)))

abbrev pub Requests : Type 0
Requests = Option Request × (Option Request × (Option Request × Option Request))

abbrev pub coded_frame : Coded Frame
coded_frame =
    code_by (Values × (Requests × List Event))
    (coded× (coded× coded_value (coded× coded_value (coded× coded_value (coded× coded_value coded_value))))
    (coded× (coded× coded_request (coded× coded_request (coded× coded_request coded_request))) (coded_list coded_event)))
    (λ f. ((f.headers, (f.metadata, (f.standard, (f.variables, f.inner)))), ((f.clone_i2e, (f.clone_e2e, (f.resubmit, f.recirculate))), f.events)))
    (λ p. record {
      headers = p.0.0;
      metadata = p.0.1.0;
      standard = p.0.1.1.0;
      variables = p.0.1.1.1.0;
      inner = p.0.1.1.1.1;
      clone_i2e = p.1.0.0;
      clone_e2e = p.1.0.1.0;
      resubmit = p.1.0.1.1.0;
      recirculate = p.1.0.1.1.1;
      events = p.1.1;
    }) (λ _. refl)

abbrev pub coded_held : Coded Held
coded_held =
    code_by (Frame × (List ℕ × ℕ)) (coded× coded_frame (coded× coded_name coded_ℕ)) (λ h. (h.frame, (h.unparsed, h.port)))
    (λ p. record { frame = p.0; unparsed = p.1.0; port = p.1.1 }) (λ _. refl)
