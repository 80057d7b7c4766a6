-- A run, moment by moment.
use Rattle.std.proofs.Common.{◌≡◌, ℕ, zero, suc, ◌+◌, ◌<◌, ◌≤◌, List, [], ◌∷◌, ◌++◌, length, take, drop, sym, refl, ap, ◌∙◌, subst, ⊎_elim, append_assoc, arith, length-append}
use lib.Seq.{take-append-le}
use Rattle.std.proofs.lemmas.List.{append-nil, take_all}
use Rattle.std.proofs.lemmas.Bool.{cases_lt}
use Rattle.shapes.specs.Entries.{EntryValues, entry_values}
use Rattle.walk.specs.Neighbourhoods.{Begins}
use Rattle.listing.specs.declared.calls.Answer.{Answer}
use Rattle.listing.specs.declared.calls.Answer.TheVariants.{Handed, Refused, Told}
use Rattle.listing.specs.declared.calls.Call.{Call}
use Rattle.listing.specs.Runs.{handed_by, handed, NextRight, Each, RightRun}
use Rattle.sources.specs.Sources.{Standing, ahead}
use Rattle.listing.specs.Turns.{Replied}

handed_append : (as' bs : List Answer) → handed (as' ++ bs) ≡ handed as' ++ handed bs
handed_append [] bs = refl
handed_append (x ∷ xs) bs = ap (λ z. handed_by x ++ z) (handed_append xs bs) ∙ sym (append_assoc (handed_by x) (handed xs) (handed bs))

pub handed_push : (as' : List Answer) (a : Answer) → handed (as' ++ a ∷ []) ≡ handed as' ++ handed_by a
handed_push as' a = handed_append as' (a ∷ []) ∙ ap (λ z. handed as' ++ z) (append-nil (handed_by a))

module _ (Good : List EntryValues → Call → Answer → Type 0) where
  -- one answer more, to the next of the calls
  each_push : (past : List EntryValues) (cs : List Call) (as' : List Answer) (c : Call) (rest : List Call) (a : Answer) → Each Good past cs as' → drop (length as') cs ≡ c ∷ rest → Good (past ++ handed as') c a → Each Good past cs (as' ++ a ∷ [])
  each_push past [] [] c rest a e d g = let n : ◌≡◌ {A = ℕ} 0 1 = cc in absurd (omega arith)
  each_push past (k ∷ cs) [] c rest a e d g =
      let same : c ≡ k = cc in
      (subst (λ (p : List EntryValues). Good p k a) (append-nil past) (subst (λ (q : Call). Good (past ++ []) q a) same g), tt)
  each_push past [] (x ∷ as') c rest a e d g = absurd e
  each_push past (k ∷ cs) (x ∷ as') c rest a e d g =
      (e.0, each_push (past ++ handed_by x) cs as' c rest a e.1 d (subst (λ (p : List EntryValues). Good p c a) (sym (append_assoc past (handed_by x) (handed as'))) g))

  -- after the answers, with a still ahead
  pub record SoFar (list : List EntryValues) (cs : List Call) (as' : List Answer) (a : List EntryValues) : Type 0 where
    pub run : RightRun Good list cs as'
    pub left : handed as' ++ a ≡ list

  module _ (list : List EntryValues) (cs : List Call) where
    pub so_far_none : (as' : List Answer) → as' ≡ [] → SoFar list cs as' list
    so_far_none as' e = subst (λ (xs : List Answer). SoFar list cs xs list) (sym e) (record { run = record { begins = none; each = tt }; left = refl })
      where
        none : (k : ℕ) → Begins (handed (take k [])) list
        none zero = (list, refl)
        none (suc k) = (list, refl)

    module _ (as' : List Answer) (a : List EntryValues) (s : SoFar list cs as' a) (r : Answer) (a' : List EntryValues) (e : a ≡ handed_by r ++ a') where
      more : handed (as' ++ r ∷ []) ++ a' ≡ list
      more = ap (λ z. z ++ a') (handed_push as' r) ∙ append_assoc (handed as') (handed_by r) a' ∙ ap (λ z. handed as' ++ z) (sym e) ∙ s.left

      begins_more : (k : ℕ) → Begins (handed (take k (as' ++ r ∷ []))) list
      begins_more k =
          ⊎_elim
          (λ (h : k < length as' + 1). let l : k ≤ length as' = omega arith in subst (λ (xs : List Answer). Begins (handed xs) list) (sym (take-append-le k as' (r ∷ []) l)) (s.run.begins k))
          (λ (h : length as' + 1 ≤ k). let l : length (as' ++ r ∷ []) ≤ k = omega (arith, length-append as' (r ∷ [])) in subst (λ (xs : List Answer). Begins (handed xs) list) (sym (take_all k (as' ++ r ∷ []) l)) (a', sym more))
          (cases_lt k (length as' + 1))

      pub so_far_more : (c : Call) (rest : List Call) → drop (length as') cs ≡ c ∷ rest → Good (handed as') c r → SoFar list cs (as' ++ r ∷ []) a'
      so_far_more c rest d g = record { run = record { begins = begins_more; each = each_push [] cs as' c rest r s.run.each d g }; left = more }

-- of a list that goes on, no beginning is all
not_all : (b : List EntryValues) (x : EntryValues) (a : List EntryValues) → b ≡ b ++ x ∷ a → ⊥
not_all b x a q = omega (arith, ap length q ∙ length-append b (x ∷ a))

module _ (s t : Standing) where
  -- a next's answer, from where the list stands
  pub next_right : (list past : List EntryValues) → past ++ ahead s ≡ list → (a : Answer) → Replied s a t → NextRight list past a
  next_right list past w (Told x) h = absurd h
  next_right list past w (Handed e) h = record {
    through = (λ q. let i : ◌≡◌ {A = Answer} (Handed e) (Refused q.0) = q.1 in let z : ◌≡◌ {A = ℕ} 0 1 = cc in absurd (omega arith), λ q. absurd (not_all past (entry_values e) (ahead t) (q ∙ sym w ∙ ap (λ z. past ++ z) h.first)));
    onward = λ _. (e, refl, (ahead t, sym (append_assoc past (entry_values e ∷ []) (ahead t) ∙ ap (λ z. past ++ z) (sym h.first) ∙ w)));
  }
  next_right list past w (Refused x) h =
      let all : past ≡ list = sym (append-nil past) ∙ ap (λ z. past ++ z) (sym h.none) ∙ w in
      record { through = (λ _. all, λ _. (x, refl, h.is_6)); onward = λ n. absurd (n all) }

  -- what an answer hands out is what it takes from ahead and puts behind
  pub replied_ahead : (a : Answer) → Replied s a t → ahead s ≡ handed_by a ++ ahead t
  replied_ahead (Handed e) h = h.first
  replied_ahead (Refused x) h = sym h.same_ahead
  replied_ahead (Told x) h = absurd h

  pub replied_behind : (a : Answer) → Replied s a t → t.behind ≡ s.behind ++ handed_by a
  replied_behind (Handed e) h = h.moved
  replied_behind (Refused x) h = h.same_behind ∙ sym (append-nil s.behind)
  replied_behind (Told x) h = absurd h
