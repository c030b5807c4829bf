-- Seconds that are made and told of.
use Rattle.std.proofs.Common.{◌≡◌, ◌∙◌, ℕ, List, [], ◌∷◌, ◌++◌, Option, refl, sym, ap, subst, append_assoc}
use Rattle.std.proofs.lemmas.List.{append-nil}
use Rattle.std.specs.Option.{ForSome}
use Rattle.sig_io.specs.Outside.{Contents}
use Rattle.sig_types.specs.Counts.{Counts, Takes}
use Rattle.sig_types.specs.Pass.{Logic}
use Rattle.vap_code.specs.Codes.{CodeOf}
use Rattle.vap_code.specs.Machine.{machine}
use Rattle.controller.specs.Past.{Site, Past}
use Rattle.controller.specs.Second.{past_after, past_after_second, past_of}
use Rattle.controller.specs.declared.controller.Controller.{Controller}
use Rattle.controller.specs.Controls.{StandsFor, code_of, logic_of, site_of}
use Rattle.controller.proofs.Runs.{past_of-more}
use Rattle.det_stream.specs.declared.lines.Lines.{Lines}
use Rattle.det_stream.specs.Answers.{Gave, Reads}
use Rattle.run_seconds.specs.Told.{told_from}

-- the frames of a past after a run are those before it and those of the run
pub frames_of : (logic : Logic) (site : Site) (past : Past) (fs : List Counts) → (past_of logic site past fs).frames ≡ past.frames ++ fs
unfolding past_after
frames_of logic site past [] = sym (append-nil past.frames)
frames_of logic site past (f ∷ fs) =
    frames_of logic site (past_after_second logic site past f) fs ∙ append_assoc past.frames (f ∷ []) fs

-- what is told of one second more
told_from-more : (row : Past → Counts → List ℕ) (logic : Logic) (site : Site) (past : Past) (fs : List Counts) (f : Counts) →
    told_from row logic site past (fs ++ f ∷ []) ≡ told_from row logic site past fs ++ row (past_of logic site past fs) f
told_from-more row logic site past [] f = append-nil (row past f)
told_from-more row logic site past (g ∷ fs) f =
    ap (λ text. row past g ++ text) (told_from-more row logic site (past_after_second logic site past g) fs f)
    ∙ sym (append_assoc (row past g) _ _)

-- controllers of the same code have the same logic
logic_is : (a b : Controller) → code_of a ≡ code_of b → logic_of a ≡ logic_of b
unfolding logic_of code_of
logic_is a b same = ap machine same

-- seconds with these frames were made and told of
pub record Underway (start now : Controller) (row_then row : CodeOf → Site → Past → Counts → List ℕ)
    (Knew Knows : CodeOf → Site → Past → List Counts → Type 0) (lines : Lines) (told : Option Contents) (name : List ℕ) (Put : List ℕ → Type 0) : Type 0 where
  pub frames : List Counts
  pub gave : Gave lines frames
  pub reads : ForSome told (λ file. Reads lines (file name) frames)
  pub code : code_of now ≡ code_of start
  pub site : site_of now ≡ site_of start
  pub steady : row ≡ row_then
  pub stands : (first : Past) → StandsFor start first → StandsFor now (past_of (logic_of start) (site_of start) first frames)
  pub put : (first : Past) → StandsFor start first → Knew (code_of start) (site_of start) first [] →
      Put (told_from (row_then (code_of start) (site_of start)) (logic_of start) (site_of start) first frames)
  pub known : (first : Past) → StandsFor start first → Knew (code_of start) (site_of start) first [] → Knows (code_of start) (site_of start) first frames

-- at the start
pub none_yet : (start : Controller) (row : CodeOf → Site → Past → Counts → List ℕ) (Knows : CodeOf → Site → Past → List Counts → Type 0) (lines : Lines)
    (told : Option Contents) (name : List ℕ) (Put : List ℕ → Type 0) → Gave lines [] → ((bytes : List ℕ) → Reads lines bytes []) → Put [] →
    Underway start start row row Knows Knows lines told name Put
none_yet start row Knows lines told name Put gave reads nothing = record {
  frames = [];
  gave = gave;
  reads = λ file is. reads (file name);
  code = refl;
  site = refl;
  steady = refl;
  stands = λ first s. s;
  put = λ first s knew. nothing;
  known = λ first s knows. knows;
}

-- what was held has gone, and no second was made
pub sent : {start now : Controller} {row_then row : CodeOf → Site → Past → Counts → List ℕ} {Knew Knows : CodeOf → Site → Past → List Counts → Type 0}
    {lines : Lines} {told : Option Contents} {name : List ℕ} {Put Put_then : List ℕ → Type 0} →
    Underway start now row_then row Knew Knows lines told name Put → ((text : List ℕ) → Put text → Put_then text) →
    Underway start now row_then row Knew Knows lines told name Put_then
sent u goes = record {
  frames = u.frames;
  gave = u.gave;
  reads = u.reads;
  code = u.code;
  site = u.site;
  steady = u.steady;
  stands = u.stands;
  put = λ first s knew. goes _ (u.put first s knew);
  known = u.known;
}

module _ {start now : Controller} {row_then row : CodeOf → Site → Past → Counts → List ℕ} {Knew Knows : CodeOf → Site → Past → List Counts → Type 0}
    {lines : Lines} {told : Option Contents} {name : List ℕ} {Put : List ℕ → Type 0}
    (u : Underway start now row_then row Knew Knows lines told name Put) (first : Past) (s : StandsFor start first) where
  -- the past for which the controller stands now
  pub here : StandsFor now (past_of (logic_of now) (site_of now) first u.frames)
  here = subst (λ past. StandsFor now past) (λ j. past_of (sym (logic_is now start u.code) j) (sym u.site j) first u.frames) (u.stands first s)

  -- what is known now
  pub now_known : Knew (code_of start) (site_of start) first [] → Knows (code_of now) (site_of now) first u.frames
  now_known knew = subst (λ p. p) (λ j. Knows (sym u.code j) (sym u.site j) first u.frames) (u.known first s knew)

-- the frame that comes can be taken
pub takes_next : (logic : Logic) (site : Site) (first : Past) (frames : List Counts) (f : Counts) → first.frames ≡ [] → Takes frames f →
    Takes (past_of logic site first frames).frames f
takes_next logic site first frames f none takes =
    subst (λ fs. Takes fs f) (sym (frames_of logic site first frames ∙ ap (λ fs. fs ++ frames) none)) takes

module _ (start now next : Controller) (row_then row row_next : CodeOf → Site → Past → Counts → List ℕ)
    (Knew Knows Knows_next : CodeOf → Site → Past → List Counts → Type 0) (lines lines' : Lines) (told : Option Contents) (name : List ℕ)
    (Put Put_next : List ℕ → Type 0) (f : Counts) where
  -- one second more
  pub one_more : (u : Underway start now row_then row Knew Knows lines told name Put) → Gave lines' (u.frames ++ f ∷ []) →
      ForSome told (λ file. Reads lines' (file name) (u.frames ++ f ∷ [])) →
      ((past : Past) → StandsFor now past → StandsFor next (past_after_second (logic_of now) (site_of now) past f)) →
      ((first : Past) (frames : List Counts) → StandsFor now (past_of (logic_of now) (site_of now) first frames) →
      Knows (code_of now) (site_of now) first frames → (text : List ℕ) → Put text →
      Put_next (text ++ row (code_of now) (site_of now) (past_of (logic_of now) (site_of now) first frames) f)) →
      ((first : Past) (frames : List Counts) → StandsFor now (past_of (logic_of now) (site_of now) first frames) →
      Knows (code_of now) (site_of now) first frames → Knows_next (code_of now) (site_of now) first (frames ++ f ∷ [])) →
      row_next ≡ row → code_of next ≡ code_of now → site_of next ≡ site_of now →
      Underway start next row_then row_next Knew Knows_next lines' told name Put_next
  one_more u gave reads stands puts knows steady code site = record {
    frames = u.frames ++ f ∷ [];
    gave = gave;
    reads = reads;
    code = code ∙ u.code;
    site = site ∙ u.site;
    steady = steady ∙ u.steady;
    stands = λ first s.
        let is : past_after_second (logic_of now) (site_of now) (after first) f ≡ past_of (logic_of start) (site_of start) first (u.frames ++ f ∷ [])
        = (λ j. past_after_second (logic j) (u.site j) (after first) f) ∙ sym (past_of-more (logic_of start) (site_of start) first u.frames f) in
        subst (λ past. StandsFor next past) is (stands (after first) (u.stands first s));
    put = λ first s knew.
        let same : row (code_of now) (site_of now) (past_of (logic_of now) (site_of now) first u.frames) f
        ≡ row_then (code_of start) (site_of start) (after first) f
        = λ j. u.steady j (u.code j) (u.site j) (past_of (logic j) (u.site j) first u.frames) f in
        subst Put_next
        (ap (λ text. told_from (row_then (code_of start) (site_of start)) (logic_of start) (site_of start) first u.frames ++ text) same
        ∙ sym (told_from-more (row_then (code_of start) (site_of start)) (logic_of start) (site_of start) first u.frames f))
        (puts first u.frames (here u first s) (now_known u first s knew) _ (u.put first s knew));
    known = λ first s knew.
        subst (λ p. p) (λ j. Knows_next (u.code j) (u.site j) first (u.frames ++ f ∷ [])) (knows first u.frames (here u first s) (now_known u first s knew));
  }
    where
      logic : logic_of now ≡ logic_of start
      logic = logic_is now start u.code

      after : Past → Past
      after first = past_of (logic_of start) (site_of start) first u.frames
