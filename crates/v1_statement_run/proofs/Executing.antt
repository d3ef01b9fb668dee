-- What each extern comes to.
use Rattle.std.proofs.Common.{◌≡◌, ℕ, ◌==◌, ◌%◌, ◌^◌, Bool, true, false, cond, List, Option, Some, None, refl, ap, ◌∙◌}
use Rattle.std.specs.Prelude.{◌&&◌}
use Rattle.state_store.specs.State.{Contents, count as count_in_store, read as read_in_store, write as write_in_store, cells_at, with_cells, has_cell, colour, colour_taken}
use Rattle.state_store.specs.Cells.{taken_in}
use Rattle.state_store.specs.Ports.{drop_port}
use Rattle.fabric.specs.declared.items.RequestKind.{RequestKind}
use Rattle.fabric.specs.declared.items.RequestKind.TheVariants as kind
use Rattle.p416_syntax.specs.declared.parts.HashAlgorithm.{HashAlgorithm}
use Rattle.v1_core.specs.declared.parser_error.ParserError.{ParserError}
use Rattle.v1_core.specs.Frames as sem
use Rattle.v1_core.specs.Cells.{Cells, slot_value, with_request}
use Rattle.v1_ready_blocks.specs.declared.places.Target.{Target}
use Rattle.v1_ready_blocks.specs.declared.externs.Extern.TheVariants as extern
use Rattle.v1_ready_blocks.specs.Moments.{Moment}
use Rattle.v1_ready_blocks.specs.Places.{put, put_at}
use Rattle.v1_ready_blocks.specs.Externs.{executed, count_entry, hashed, holds_at, is_wrong, number_at, result_by, value_at, word_at}
use Rattle.v1_statement_run.specs.declared.run.Run.{Run}
use Rattle.v1_statement_run.specs.Seen.{IsMoved, checked, entry_counted, given_of, list_of, moment, seen_hit, summed, with_list}

-- a step on the store, on the frame, or on both

on_store : (c : Cells) (before behind due : Contents) (u : List ℕ) (r : Run) → due.shapes ≡ before.shapes → behind ≡ due → IsMoved c before (moment c behind u r) (moment c due u r)
on_store c before behind due u r shapes is = record {
  layout = refl;
  shapes = ap (λ (s : Contents). s.shapes) is ∙ shapes;
  moves = ap (λ (s : Contents). moment c s u r) is;
}

on_cells : (old new due : Cells) (store : Contents) (u : List ℕ) (r : Run) → due.layout ≡ old.layout → new ≡ due → IsMoved old store (moment new store u r) (moment due store u r)
on_cells old new due store u r layout is = record {
  layout = ap (λ (c : Cells). c.layout) is ∙ layout;
  shapes = refl;
  moves = ap (λ (c : Cells). moment c store u r) is;
}

module _ (c : Cells) (before behind : Contents) (u : List ℕ) (r : Run) where
  pub counted : (object length index : ℕ) → index ≡ word_at (given_of r) 0 → behind ≡ count_in_store before object index (slot_value c length % 2 ^ 32) → IsMoved c before (moment c behind u r) (executed (extern.Count object length) (given_of r) (moment c before u r))
  counted object length index at is =
      on_store c before behind (count_in_store before object (word_at (given_of r) 0) (slot_value c length % 2 ^ 32)) u r refl
      (is ∙ ap (λ i. count_in_store before object i (slot_value c length % 2 ^ 32)) at)

  pub written : (object index number : ℕ) → index ≡ word_at (given_of r) 0 → number ≡ number_at (given_of r) 1 → behind ≡ write_in_store before object index number → IsMoved c before (moment c behind u r) (executed (extern.Write object) (given_of r) (moment c before u r))
  written object index number at what is =
      on_store c before behind (write_in_store before object (word_at (given_of r) 0) (number_at (given_of r) 1)) u r refl
      (is ∙ ap (λ i. write_in_store before object i number) at ∙ ap (write_in_store before object (word_at (given_of r) 0)) what)

entry_shapes : (object octets : ℕ) (store : Contents) (hit : Option sem.Hit) → (entry_counted object hit octets store).shapes ≡ store.shapes
entry_shapes object octets store None = refl
entry_shapes object octets store (Some h) = by_test (h.counter == object)
  where
    by_test : (b : Bool) → (cond b (count_in_store store object h.entry octets) store).shapes ≡ store.shapes
    by_test true = refl
    by_test false = refl

entry_is : (object length : ℕ) (c waiting : Cells) (store : Contents) (u : List ℕ) (emitted : List Bool) (work : ℕ) (stopped : Option ParserError) (hit : Option sem.Hit) →
    let m : Moment = record { cells = c; waiting = waiting; store = store; unparsed = u; emitted = emitted; work = work; stopped = stopped; hit = hit } in
    record m { store = entry_counted object hit (slot_value c length % 2 ^ 32) store } ≡ count_entry object length m
entry_is object length c waiting store u emitted work stopped None = refl
entry_is object length c waiting store u emitted work stopped (Some h) = by_test (h.counter == object)
  where
    with_store : Contents → Moment
    with_store behind = record { cells = c; waiting = waiting; store = behind; unparsed = u; emitted = emitted; work = work; stopped = stopped; hit = Some h }

    by_test : (b : Bool) → with_store (cond b (count_in_store store object h.entry (slot_value c length % 2 ^ 32)) store) ≡ cond b (with_store (count_in_store store object h.entry (slot_value c length % 2 ^ 32))) (with_store store)
    by_test true = refl
    by_test false = refl

pub counted_entry : (c : Cells) (before behind : Contents) (u : List ℕ) (r : Run) (object length : ℕ) → behind ≡ entry_counted object (seen_hit r.hit) (slot_value c length % 2 ^ 32) before → IsMoved c before (moment c behind u r) (executed (extern.CountEntry object length) (given_of r) (moment c before u r))
counted_entry c before behind u r object length is = record {
  layout = refl;
  shapes = ap (λ (s : Contents). s.shapes) is ∙ entry_shapes object (slot_value c length % 2 ^ 32) before (seen_hit r.hit);
  moves =
      ap (λ (s : Contents). moment c s u r) is
      ∙ entry_is object length c r.waiting before u r.emitted r.work r.stopped (seen_hit r.hit);
}

module _ (old new : Cells) (store : Contents) (u : List ℕ) (r : Run) where
  pub was_read : (object index number : ℕ) (to : Target) → index ≡ word_at (given_of r) 0 → number ≡ read_in_store store object index → new ≡ put_at to number old → IsMoved old store (moment new store u r) (executed (extern.Read object to) (given_of r) (moment old store u r))
  was_read object index number to at reads is =
      on_cells old new (put_at to (read_in_store store object (word_at (given_of r) 0)) old) store u r refl
      (is ∙ ap (λ n. put_at to n old) reads ∙ ap (λ i. put_at to (read_in_store store object i) old) at)

  pub was_hashed : (algorithm : HashAlgorithm) (to : Target) (number : ℕ) → number ≡ hashed algorithm (given_of r) → new ≡ put_at to number old → IsMoved old store (moment new store u r) (executed (extern.Hash algorithm to) (given_of r) (moment old store u r))
  was_hashed algorithm to number hashes is =
      on_cells old new (put_at to (hashed algorithm (given_of r)) old) store u r refl (is ∙ ap (λ n. put_at to n old) hashes)

  pub was_dropped : (slot : ℕ) → new ≡ put slot None drop_port old → IsMoved old store (moment new store u r) (executed (extern.MarkToDrop slot) (given_of r) (moment old store u r))
  was_dropped slot is = on_cells old new (put slot None drop_port old) store u r refl is

request_layout : (k : RequestKind) (request : Option sem.Request) (c : Cells) → (with_request k request c).layout ≡ c.layout
request_layout kind.CloneI2E request c = refl
request_layout kind.CloneE2E request c = refl
request_layout kind.Resubmit request c = refl
request_layout kind.Recirculate request c = refl

module _ (old new : Cells) (store : Contents) (u : List ℕ) (r : Run) (k : RequestKind) (list : ℕ) where
  pub was_cloned : (session : ℕ) → session ≡ word_at (given_of r) 0 → new ≡ with_request k (Some (session, list)) old → IsMoved old store (moment new store u r) (executed (extern.Clone k list) (given_of r) (moment old store u r))
  was_cloned session at is =
      on_cells old new (with_request k (Some (word_at (given_of r) 0, list)) old) store u r (request_layout k (Some (word_at (given_of r) 0, list)) old)
      (is ∙ ap (λ (s : ℕ). with_request k (Some (s, list)) old) at)

  pub was_requested : new ≡ with_request k (Some (0, list)) old → IsMoved old store (moment new store u r) (executed (extern.Request k list) (given_of r) (moment old store u r))
  was_requested is = on_cells old new (with_request k (Some (0, list)) old) store u r (request_layout k (Some (0, list)) old) is

taken_shapes : (store : Contents) (object index : ℕ) → (colour_taken store object index).shapes ≡ store.shapes
taken_shapes store object index = by_test (has_cell store object index)
  where
    by_test : (b : Bool) → (cond b (with_cells store object (taken_in (cells_at store object))) store).shapes ≡ store.shapes
    by_test true = refl
    by_test false = refl

pub was_coloured : (old new : Cells) (before behind : Contents) (u : List ℕ) (r : Run) (object index : ℕ) (to : Target) → index ≡ word_at (given_of r) 0 → new ≡ put_at to (colour before object index) old → behind ≡ colour_taken before object index → IsMoved old before (moment new behind u r) (executed (extern.ExecuteMeter object to) (given_of r) (moment old before u r))
was_coloured old new before behind u r object index to at is takes = record {
  layout = ap (λ (c : Cells). c.layout) is;
  shapes = ap (λ (s : Contents). s.shapes) takes ∙ taken_shapes before object index;
  moves =
      ap (λ (c : Cells). moment c behind u r) is
      ∙ ap (λ (s : Contents). moment (put_at to (colour before object index) old) s u r) takes
      ∙ ap (λ i. moment (put_at to (colour before object i) old) (colour_taken before object i) u r) at;
}

-- checksums: where a test holds the frame changes

by_test_layout : (b : Bool) (old new : Cells) → new.layout ≡ old.layout → (cond b new old).layout ≡ old.layout
by_test_layout true old new e = e
by_test_layout false old new e = refl

by_test_moment : (b : Bool) (old new : Cells) (store : Contents) (u : List ℕ) (r : Run) → moment (cond b new old) store u r ≡ cond b (moment new store u r) (moment old store u r)
by_test_moment true old new store u r = refl
by_test_moment false old new store u r = refl

module _ (old new : Cells) (store : Contents) (u : List ℕ) (r next : Run) (algorithm : HashAlgorithm) (payload : Bool) (list : List Bool) (kept : next ≡ with_list list r) where
  pub was_verified : (slot : ℕ) → new ≡ checked algorithm payload slot (given_of r) u old → IsMoved old store (moment new store u next) (executed (extern.Verify algorithm payload slot) (given_of r) (moment old store u r))
  was_verified slot is =
      let test : Bool = holds_at (given_of r) 0 && is_wrong algorithm (list_of payload (given_of r) u) (value_at (given_of r) 1) in
      record {
        layout = ap (λ (c : Cells). c.layout) is ∙ by_test_layout test old (put slot None 1 old) refl;
        shapes = refl;
        moves =
            ap (λ (n : Run). moment new store u n) kept
            ∙ ap (λ (c : Cells). moment c store u r) is
            ∙ by_test_moment test old (put slot None 1 old) store u r;
      }

  pub was_updated : (to : Target) → new ≡ summed algorithm payload to (given_of r) u old → IsMoved old store (moment new store u next) (executed (extern.Update algorithm payload to) (given_of r) (moment old store u r))
  was_updated to is =
      let test : Bool = holds_at (given_of r) 0 in
      let due : Cells = put_at to (result_by algorithm (list_of payload (given_of r) u)) old in
      record {
        layout = ap (λ (c : Cells). c.layout) is ∙ by_test_layout test old due refl;
        shapes = refl;
        moves =
            ap (λ (n : Run). moment new store u n) kept
            ∙ ap (λ (c : Cells). moment c store u r) is
            ∙ by_test_moment test old due store u r;
      }

-- over the list with the payload

module _ (f new : Cells) (r next : Run) (u : List ℕ) (algorithm : HashAlgorithm) (payload : Bool) (list : List Bool) (kept : next ≡ with_list list r) (all : list ≡ list_of payload (given_of r) u) where
  next_is : next ≡ with_list (list_of payload (given_of r) u) r
  next_is = kept ∙ ap (λ (l : List Bool). with_list l r) all

  pub was_checked : (slot : ℕ) (wrong : Bool) → wrong ≡ (holds_at (given_of next) 0 && is_wrong algorithm next.list (value_at (given_of next) 1)) → new ≡ cond wrong (put slot None 1 f) f → new ≡ checked algorithm payload slot (given_of r) u f
  was_checked slot wrong is put_there =
      put_there
      ∙ ap (λ (b : Bool). cond b (put slot None 1 f) f) is
      ∙ ap (λ (n : Run). cond (holds_at (given_of n) 0 && is_wrong algorithm n.list (value_at (given_of n) 1)) (put slot None 1 f) f) next_is

  pub was_summed : (to : Target) (test : Bool) (number : ℕ) → test ≡ holds_at (given_of next) 0 → number ≡ result_by algorithm next.list → new ≡ cond test (put_at to number f) f → new ≡ summed algorithm payload to (given_of r) u f
  was_summed to test number is sums put_there =
      put_there
      ∙ ap (λ (b : Bool). cond b (put_at to number f) f) is
      ∙ ap (λ (n : ℕ). cond (holds_at (given_of next) 0) (put_at to n f) f) sums
      ∙ ap (λ (n : Run). cond (holds_at (given_of n) 0) (put_at to (result_by algorithm n.list) f) f) next_is
