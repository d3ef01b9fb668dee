-- What an application of a table tells and leaves of moments that are alike.
use Rattle.std.proofs.Common.{◌≡◌, ℕ, Option, Some, None, List, [], ◌∷◌, map, refl, ap, ap₂, subst}
use Rattle.match_core.specs.Best.{best}
use Rattle.match_core.specs.Tables.{filled_of}
use Rattle.p416_syntax.specs.declared.controls.Action16.{Action16}
use Rattle.p416_syntax.specs.declared.controls.TableKey.{TableKey}
use Rattle.p416_syntax.specs.declared.controls.Table16.{Table16}
use Rattle.p416_syntax.specs.Properties.{keys_of}
use Rattle.p416_syntax.specs.Calls.{table_key}
use Rattle.p416_syntax.specs.Declarations.{is_exact}
use Rattle.v1_core.specs.Values.{Value, as_number, no_members}
use Rattle.v1_core.specs.Frames.{Hit, Moment, with_inner}
use Rattle.v1_core.specs.Signatures.{key_scope, table_sig, table_number}
use Rattle.v1_core.specs.Surroundings.{Surroundings, quiet_world, action_named, table_named}
use Rattle.v1_core.specs.Expressions.{Valued}
use Rattle.v1_core.specs.Tables.{key_value, fill_of, found, Chosen, chosen, bound_numbers, hit_of, run_action, run_chosen, with_application, applied_by, applied_in}
use Rattle.v1_core.specs.Blocks.{act, control_world}
use Rattle.shard_laws.specs.Likeness.{Pairing, Like, like, LikeValued, like_valued, LikeApplied, like_applied, LikeWorld}
use Rattle.shard_laws.proofs.Leaves.{inner}
use Rattle.shard_laws.proofs.Values.{values}
use Rattle.shard_laws.proofs.Statements.{actions}

pub quiet : (k : Pairing) (b : Surroundings) → LikeWorld k (quiet_world b)
quiet k b = record { acts = λ a m n h. h; applies = λ text m n h. like_applied _ _ m n h }

pub same_value : (k : Pairing) (x y : Valued) → LikeValued k x y → x.value ≡ y.value
same_value k _ _ (like_valued v m n h) = refl

module _ (k : Pairing) (b : Surroundings) where
  same_keys : (m n : Moment) → Like k m n → (keys : List TableKey) → map (key_value b m) keys ≡ map (key_value b n) keys
  same_keys m n h [] = refl
  same_keys m n h (key ∷ keys) =
      ap₂ (λ (v : Value) (rest : List ℕ). as_number v ∷ rest)
      (same_value k _ _ (values k (quiet_world b) (quiet k b) (key_scope b.scope) (table_key (is_exact key)) key.exp _ _ (inner k no_members m n h)))
      (same_keys m n h keys)

  same_found : (m n : Moment) → Like k m n → (t : Table16) → found b m t ≡ found b n t
  same_found m n h t =
      ap (λ (keys : List ℕ). best (filled_of (table_sig b.setting.syntax b.locals b.scope t) (fill_of b t)) keys) (same_keys m n h (keys_of t.properties))

  noted : (table : ℕ) (entry : Option ℕ) (c : Option Chosen) (m n : Moment) → Like k m n → Like k (with_application table entry c m) (with_application table entry c n)
  noted table entry c m _ (like _ s w p q) = like (with_application table entry c m) s w p q

  left_by_action : (v : Value) (hit : Option Hit) (m n : Moment) → Like k m n → Like k (record (with_inner v m) { hit = hit }) (record (with_inner v n) { hit = hit })
  left_by_action v hit m _ (like _ s w p q) = like (record (with_inner v m) { hit = hit }) s w p q

  action_runs : (hit : Option Hit) (numbers : List ℕ) (a : Option Action16) (m n : Moment) → Like k m n → Like k (run_action b (act b) hit numbers a m) (run_action b (act b) hit numbers a n)
  action_runs hit numbers None m n h = h
  action_runs hit numbers (Some a) m _ (like _ s w p q) =
      left_by_action m.frame.inner m.hit _ _ (actions k b a _ _ (left_by_action (bound_numbers b.scope a.parameters numbers) hit m _ (like m s w p q)))

  chosen_runs : (hit : Option Hit) (c : Option Chosen) (m n : Moment) → Like k m n → Like k (run_chosen b (act b) hit c m) (run_chosen b (act b) hit c n)
  chosen_runs hit None m n h = h
  chosen_runs hit (Some c) m n h = action_runs hit c.arguments (action_named b c.called) m n h

  applies_by : (t : Table16) (entry : Option ℕ) (m n : Moment) → Like k m n → LikeApplied k (applied_by b (act b) t entry m) (applied_by b (act b) t entry n)
  applies_by t entry m n h =
      like_applied _ _ _ _ (chosen_runs (hit_of (table_sig b.setting.syntax b.locals b.scope t).direct entry) (chosen b t entry) _ _ (noted (table_number b.setting.syntax t) entry (chosen b t entry) m n h))

  applies_in : (t : Option Table16) (m n : Moment) → Like k m n → LikeApplied k (applied_in b (act b) t m) (applied_in b (act b) t n)
  applies_in None m n h = like_applied _ _ m n h
  applies_in (Some t) m n h =
      subst (λ (entry : Option ℕ). LikeApplied k (applied_by b (act b) t (found b m t) m) (applied_by b (act b) t entry n)) (same_found m n h t) (applies_by t (found b m t) m n h)

  pub control_like : LikeWorld k (control_world b)
  control_like = record { acts = actions k b; applies = λ text m n h. applies_in (table_named b text) m n h }
