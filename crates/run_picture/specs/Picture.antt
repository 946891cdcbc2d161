-- The whole picture.
use Rattle.std.specs.Prelude.{ℕ, List, ◌++◌, codes, decimal, flat_map, length}
use Rattle.run_picture.specs.declared.run.Lane.{Lane}
use Rattle.run_picture.specs.declared.run.Run.{Run}
use Rattle.run_picture.specs.declared.run.Series.{Series}
use Rattle.run_picture.specs.Lanes.{lane_text}
use Rattle.run_picture.specs.Layout.{count, legend_top, page_height, page_width, plot_top, width}
use Rattle.run_picture.specs.Plots.{series_text}

abbrev pub all_lanes : ℕ → List Lane → List ℕ
all_lanes events lanes = flat_map (lane_text events) lanes

abbrev pub all_series : ℕ → ℕ → List Series → List ℕ
all_series lanes events plots = flat_map (series_text lanes events) plots

unfoldable pub size_text : ℕ → ℕ → List ℕ
size_text wide high =
    codes "<svg xmlns='http://www.w3.org/2000/svg' width='"
    ++ (decimal wide
    ++ (codes "' height='"
    ++ (decimal high
    ++ (codes "' viewBox='0 0 " ++ (decimal wide ++ (codes " " ++ (decimal high ++ codes "' role='img'>\n")))))))

unfoldable pub page_text : ℕ → ℕ → List ℕ
page_text wide high =
    codes "<rect class='page' width='"
    ++ (decimal wide ++ (codes "' height='" ++ (decimal high ++ codes "'/>\n<g transform='translate(170 140)'>\n")))

unfoldable pub ground_text : ℕ → ℕ → List ℕ
ground_text columns bottom =
    codes "<rect fill='url(#columns)' width='"
    ++ (decimal columns
    ++ (codes "' height='" ++ (decimal bottom ++ codes "'/>\n<text class='axis' x='-14' y='-8'>event</text>\n")))

-- the size, the style, and a line for each event
abbrev pub head_text : List ℕ → ℕ → ℕ → List ℕ
head_text style bottom events =
    size_text (page_width events) (page_height bottom)
    ++ (style
    ++ (page_text (page_width events) (page_height bottom) ++ ground_text (width events) bottom))

-- the legend
unfoldable pub foot_text : ℕ → List ℕ
foot_text bottom =
    codes "<use href='#legend' x='-154' y='" ++ (decimal (legend_top bottom) ++ codes "'/>\n</g>\n</svg>\n")

-- where the plots end
abbrev pub bottom_of : Run → ℕ
bottom_of run = plot_top (count (length run.lanes.items)) (count (length run.series.items))

-- the lanes in order, each with all its shapes, and then the plots in order
abbrev pub picture_text : List ℕ → Run → List ℕ
picture_text style run =
    head_text style (bottom_of run) run.events
    ++ (all_lanes run.events run.lanes.items
    ++ (all_series (count (length run.lanes.items)) run.events run.series.items ++ foot_text (bottom_of run)))
