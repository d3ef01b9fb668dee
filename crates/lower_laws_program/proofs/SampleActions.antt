-- The sample with the bodies that the lowering of actions writes, under the parallel rule.
use Rattle.std.proofs.Common.{◌≡◌, ◌≢◌, ℕ, zero, suc, ◌<◌, Bool, true, false, Some, List, [], map, refl, arith}
use Rattle.std.specs.Prelude.{codes}
use Rattle.state_store.specs.State.{Contents}
use Rattle.p414_syntax.specs.declared.syntax.Rule14.TheVariants.{Parallel}
use Rattle.p414_sem.specs.Expanded.{primitives_at}
use Rattle.p416_syntax.specs.Tree.{Stmt16}
use Rattle.p416_syntax.specs.Kinds.{Enumeration, hash_algorithm, counter_type, meter_type, clone_type, struct}
use Rattle.p416_syntax.specs.Scopes.{a_value, an_enumeration as of_enumeration, sort_of}
use Rattle.p416_syntax.specs.Declarations.{action_scope}
use Rattle.v1_core.specs.Values.{to_member}
use Rattle.v1_core.specs.Frames.{Owner, of_headers, of_metadata, of_standard, of_variables, of_inner, of_nothing, whole, stepped}
use Rattle.v1_core.specs.Surroundings.{Surroundings, by_root}
use Rattle.agreement_of_meanings.specs.Shown.{NamedField}
use Rattle.agreement_of_meanings.proofs.Names.{differ_names}
use Rattle.lower_laws_base.specs.Context.{local_at, local_of, HasNone, HasRoot, enumeration_name, Item, IsItem, item_name, Lowering, IsCopied, Copies, Sees, Spares}
use Rattle.lower_laws_actions.specs.Mirror.{body_stmt}
use Rattle.lower_laws_actions.specs.Runs.{primitives_of}
use Rattle.lower_laws_actions.proofs.Entering.{action_acts}
use Rattle.lower_laws_sums.specs.Alike.{ControlsAlike}
use Rattle.lower_laws_sums.proofs.Programs.{ds, d14, expanded, words, v_field, root, copy, root_type, between, variables, low, put16, mark16, setting16}
use Rattle.lower_laws_sums.proofs.Sample.{b, Facts, declares, sees_none, apart_by, variables_differ, sample_alike}
use Rattle.lower_laws_actions.specs.Actions.{body_world, ActionIs}

abbrev all : Owner → Bool
all o = true

abbrev put_body : Stmt16
put_body = body_stmt ds (words v_field) Parallel (Some 0) (primitives_of ds expanded (primitives_at expanded 0))

abbrev mark_body : Stmt16
mark_body = body_stmt ds (words []) Parallel (Some 0) (primitives_of ds expanded (primitives_at expanded 1))

abbrev here : Surroundings
here = b put_body mark_body

abbrev within : List NamedField → Lowering
within parameters = low all variables parameters (body_world here 1)

-- the scopes of the actions

facts_put : Facts put_body mark_body all variables v_field (body_world here 1) (action_scope here.scope (put16 put_body))
facts_put = record { layouts = refl; apart = variables_differ; roots = roots; copies = copies; object = refl; numbered = refl; functions_are = (refl, (refl, (refl, (refl, (refl, (refl, (refl, (refl, (refl, tt))))))))); enumerations = enumerations } where
  roots : (o : Owner) → HasRoot (within v_field).layout o → (sort_of (action_scope here.scope (put16 put_body)) (root o) ≡ a_value (struct (root_type o)) true) × (by_root here.roots (root o) ≡ whole o)
  roots of_headers is = (refl, refl)
  roots of_metadata is = (refl, refl)
  roots of_standard is = (refl, refl)
  roots of_variables is = absurd is
  roots of_inner is = absurd is
  roots of_nothing is = absurd is

  copies : (o : Owner) → IsCopied (within v_field) o → (sort_of (action_scope here.scope (put16 put_body)) (copy o) ≡ a_value (struct (root_type o)) true) × (by_root here.roots (copy o) ≡ stepped (whole of_variables) (to_member (copy o)))
  copies of_headers is = (refl, refl)
  copies of_metadata is = (refl, refl)
  copies of_standard is = (refl, refl)
  copies of_variables is = (refl, refl)
  copies of_inner is = (refl, refl)
  copies of_nothing is = (refl, refl)

  enumerations : (e : Enumeration) → sort_of (action_scope here.scope (put16 put_body)) (enumeration_name e) ≡ of_enumeration e
  enumerations hash_algorithm = refl
  enumerations counter_type = refl
  enumerations meter_type = refl
  enumerations clone_type = refl

facts_mark : Facts put_body mark_body all variables [] (body_world here 1) (action_scope here.scope (mark16 mark_body))
facts_mark = record { layouts = refl; apart = variables_differ; roots = roots; copies = copies; object = refl; numbered = refl; functions_are = (refl, (refl, (refl, (refl, (refl, (refl, (refl, (refl, (refl, tt))))))))); enumerations = enumerations } where
  roots : (o : Owner) → HasRoot (within []).layout o → (sort_of (action_scope here.scope (mark16 mark_body)) (root o) ≡ a_value (struct (root_type o)) true) × (by_root here.roots (root o) ≡ whole o)
  roots of_headers is = (refl, refl)
  roots of_metadata is = (refl, refl)
  roots of_standard is = (refl, refl)
  roots of_variables is = absurd is
  roots of_inner is = absurd is
  roots of_nothing is = absurd is

  copies : (o : Owner) → IsCopied (within []) o → (sort_of (action_scope here.scope (mark16 mark_body)) (copy o) ≡ a_value (struct (root_type o)) true) × (by_root here.roots (copy o) ≡ stepped (whole of_variables) (to_member (copy o)))
  copies of_headers is = (refl, refl)
  copies of_metadata is = (refl, refl)
  copies of_standard is = (refl, refl)
  copies of_variables is = (refl, refl)
  copies of_inner is = (refl, refl)
  copies of_nothing is = (refl, refl)

  enumerations : (e : Enumeration) → sort_of (action_scope here.scope (mark16 mark_body)) (enumeration_name e) ≡ of_enumeration e
  enumerations hash_algorithm = refl
  enumerations counter_type = refl
  enumerations meter_type = refl
  enumerations clone_type = refl

-- copies of the parameters of the block
copies : (parameters : List NamedField) → Copies (within parameters)
copies parameters = record { copied = copied; differ = apart } where
  copied : (o : Owner) → HasRoot (within parameters).layout o → IsCopied (within parameters) o
  copied of_headers is = record { place = 0; within = omega arith; stands = refl }
  copied of_metadata is = record { place = 1; within = omega arith; stands = refl }
  copied of_standard is = record { place = 2; within = omega arith; stands = refl }
  copied of_variables is = absurd is
  copied of_inner is = absurd is
  copied of_nothing is = absurd is

  apart : (o p : Owner) → HasRoot (within parameters).layout o → HasRoot (within parameters).layout p → copy o ≡ copy p → o ≡ p
  apart of_headers of_headers a b same = refl
  apart of_headers of_metadata a b same = absurd (differ_names (codes "old_hdr") (codes "old_meta") refl same)
  apart of_headers of_standard a b same = absurd (differ_names (codes "old_hdr") (codes "old_sm") refl same)
  apart of_metadata of_headers a b same = absurd (differ_names (codes "old_meta") (codes "old_hdr") refl same)
  apart of_metadata of_metadata a b same = refl
  apart of_metadata of_standard a b same = absurd (differ_names (codes "old_meta") (codes "old_sm") refl same)
  apart of_standard of_headers a b same = absurd (differ_names (codes "old_sm") (codes "old_hdr") refl same)
  apart of_standard of_metadata a b same = absurd (differ_names (codes "old_sm") (codes "old_meta") refl same)
  apart of_standard of_standard a b same = refl
  apart of_headers of_variables a b same = absurd b
  apart of_headers of_inner a b same = absurd b
  apart of_headers of_nothing a b same = absurd b
  apart of_metadata of_variables a b same = absurd b
  apart of_metadata of_inner a b same = absurd b
  apart of_metadata of_nothing a b same = absurd b
  apart of_standard of_variables a b same = absurd b
  apart of_standard of_inner a b same = absurd b
  apart of_standard of_nothing a b same = absurd b
  apart of_variables p a b same = absurd a
  apart of_inner p a b same = absurd a
  apart of_nothing p a b same = absurd a

-- the parameter is seen beside all else

sees_put : Sees (within v_field) (action_scope here.scope (put16 put_body)) (map local_of v_field)
sees_put = record { declares = declares put_body mark_body all variables v_field (body_world here 1) (action_scope here.scope (put16 put_body)) facts_put; locals = there; distinct = distinct; apart = apart } where
  there : (j : ℕ) → j < 1 → (can : Bool) × (sort_of (action_scope here.scope (put16 put_body)) (local_at (map local_of v_field) j).called ≡ a_value (local_at (map local_of v_field) j).kind can)
  there zero lt = (false, refl)
  there (suc j) lt = absurd (omega (arith, lt))

  distinct : (j k : ℕ) → j < 1 → k < 1 → j ≢ k → (local_at (map local_of v_field) j).called ≢ (local_at (map local_of v_field) k).called
  distinct zero zero a b apart = absurd (apart refl)
  distinct zero (suc k) a b apart = absurd (omega (arith, b))
  distinct (suc j) k a b apart = absurd (omega (arith, a))

  apart : (x : Item) → IsItem (within v_field) x → HasNone (map local_of v_field) (item_name (within v_field) x)
  apart x is zero lt = apart_by put_body mark_body all variables v_field (body_world here 1) (action_scope here.scope (put16 put_body)) (codes "v") (refl, (refl, (refl, (refl, (refl, (refl, (refl, (refl, (refl, (refl, (refl, tt))))))))))) (refl, (refl, (refl, (refl, (refl, (refl, (refl, (refl, (refl, tt))))))))) x is
  apart x is (suc j) lt = absurd (omega (arith, lt))

spares_put : Spares (within v_field) (map local_of v_field) 0
spares_put = record {
  free = λ a i le. record { locals = none a i; items = λ x is. apart_by put_body mark_body all variables v_field (body_world here 1) here.scope ((within v_field).spare a i) (refl, (refl, (refl, (refl, (refl, (refl, (refl, (refl, (refl, (refl, (refl, tt))))))))))) (refl, (refl, (refl, (refl, (refl, (refl, (refl, (refl, (refl, tt))))))))) x is };
  differ = λ a i d j same. (cc same, cc same);
} where
  none : (a i : ℕ) → HasNone (map local_of v_field) ((within v_field).spare a i)
  none a i zero lt = differ_names (codes "v") ((within v_field).spare a i) refl
  none a i (suc j) lt = absurd (omega (arith, lt))

spares_mark : Spares (within []) [] 0
spares_mark = record {
  free = λ a i le. record { locals = λ j lt. absurd (omega (arith, lt)); items = λ x is. apart_by put_body mark_body all variables [] (body_world here 1) here.scope ((within []).spare a i) (refl, (refl, (refl, (refl, (refl, (refl, (refl, (refl, (refl, (refl, (refl, tt))))))))))) (refl, (refl, (refl, (refl, (refl, (refl, (refl, (refl, (refl, tt))))))))) x is };
  differ = λ a i d j same. (cc same, cc same);
}

put_is : ActionIs (within v_field) d14 here 1 (Some 0) 0 (put16 put_body)
put_is = record {
  world = refl;
  sees = sees_put;
  spares = spares_put;
  parameters = (refl, refl, tt);
  counter = (omega arith, refl);
  fits = (((omega arith, omega arith, refl, omega arith), refl, omega arith, tt), (((omega arith, omega arith, refl, omega arith), refl, (omega arith, omega arith, refl, omega arith), tt), tt));
  rule = λ needs. (copies v_field, record { headers = refl; metadata = refl; standard = refl });
  body = refl;
}

mark_is : ActionIs (within []) d14 here 1 (Some 0) 1 (mark16 mark_body)
mark_is = record {
  world = refl;
  sees = sees_none put_body mark_body all variables [] (body_world here 1) (action_scope here.scope (mark16 mark_body)) facts_mark;
  spares = spares_mark;
  parameters = tt;
  counter = (omega arith, refl);
  fits = (((omega arith, omega arith, refl, omega arith), refl, tt, tt), tt);
  rule = λ needs. (copies [], record { headers = refl; metadata = refl; standard = refl });
  body = refl;
}

-- all controls of the sample
pub joined_alike : Contents → ControlsAlike between d14 (setting16 put_body mark_body)
joined_alike store =
    sample_alike put_body mark_body
    (action_acts (within v_field) d14 here 1 (Some 0) 0 (put16 put_body) put_is)
    (action_acts (within []) d14 here 1 (Some 0) 1 (mark16 mark_body) mark_is) store
