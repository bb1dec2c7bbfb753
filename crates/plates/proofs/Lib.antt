mod Outside
pub mod PlateLaws
