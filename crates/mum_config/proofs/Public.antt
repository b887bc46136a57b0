-- What the crates above use of these proofs. Declares nothing.
pub use Rattle.mum_config.proofs.{Bare.IsBare, Bare.Leads, Bare.empty_bare, Bare.leads, Bare.less_left, Bare.one_more, FitChannels.one_there, FitDocument.said_of_value, FitDocument.same_edits, FitDocument.text_fits, FitDocument.text_fits_limits, FitSettings.settings_fit_limits, Said.each_alone, Said.each_element, Said.each_row, Said.list_short, Said.not_against, Said.object_rows, Said.rows_apart}
